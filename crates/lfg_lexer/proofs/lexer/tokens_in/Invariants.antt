use Rattle.std.proofs.Common.{◌≡◌, ◌+◌, ◌++◌, ℕ, List, length}
use Rattle.lfg_model.specs.declared.token.Token.{Token}
use Rattle.lfg_model.specs.Tokens.{width, Tokens, Stuck}
use Rattle.lfg_lexer.proofs.lexer.tokens_in.Given as goal

abbrev pub invariant-loop-rest : goal.invariant-loop-rest
invariant-loop-rest l = record {
  place : l.at + width l.rest ≡ width l.chars;
  read : (ts : List Token) → Tokens l.at l.rest ts → Tokens 0 l.chars (l.tokens.items ++ ts);
  stuck : (stop : ℕ) → Stuck l.at l.rest stop → Stuck 0 l.chars stop;
}

abbrev pub decreases-loop-rest : goal.decreases-loop-rest
decreases-loop-rest l = length l.rest
