use Rattle.std.proofs.Common.{◌≡◌, map, take}
use Rattle.lfg_model.specs.ThinText.{token_of}
use Rattle.xle_run.proofs.thin.sentences.tokens_of.Given as goal

abbrev pub invariant-loop-word : goal.invariant-loop-word
invariant-loop-word l = l.tokens.items ≡ map token_of (map (λ x. x.now) (take l.word-index l.words))
