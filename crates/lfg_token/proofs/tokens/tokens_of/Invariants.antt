use Rattle.std.proofs.Common.{◌≡◌, ◌++◌, map, take}
use Rattle.lfg_token.specs.Words.{token_of}
use Rattle.lfg_token.proofs.tokens.tokens_of.Given as goal

abbrev pub invariant-loop-text : goal.invariant-loop-text
invariant-loop-text l = l.tokens.items ≡ l.initial.tokens.items ++ map token_of (map (λ x. x.now) (take l.text-index l.rest))
