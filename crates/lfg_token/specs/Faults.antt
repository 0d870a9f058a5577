-- What a fault says of the line.
use Rattle.std.specs.Prelude.{◌≡◌, ◌<◌, ℕ, List, length}
use Rattle.lfg_token.specs.Words.{tokens}
use Rattle.lfg_token.specs.declared.fault.TokenFault.{TokenFault}
use Rattle.lfg_token.specs.declared.fault.TokenFault.TheVariants.{TooLong, Memory}

-- there are more than 64 tokens, and the fault has their number; want of memory says nothing of the
-- line
abbrev pub IsFault : List ℕ → TokenFault → Type 0
IsFault line (TooLong count) = (64 < count) × (count ≡ length (tokens line))
IsFault line Memory = Unit {0}
