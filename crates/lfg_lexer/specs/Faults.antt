-- What a fault says of the characters.
use Rattle.std.specs.Prelude.{ℕ, List}
use Rattle.lfg_model.specs.Tokens.{Stuck}
use Rattle.lfg_lexer.specs.declared.fault.LexFault.{LexFault}
use Rattle.lfg_lexer.specs.declared.fault.LexFault.TheVariants.{NoToken, Memory}

-- the fault names the first place at which nothing begins; want of memory says nothing of the text
abbrev pub StopsAt : List ℕ → LexFault → Type 0
StopsAt cs (NoToken at) = Stuck 0 cs at
StopsAt cs Memory = Unit {0}
