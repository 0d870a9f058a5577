use Rattle.std.proofs.Common.{◌≡◌, drop}
use Rattle.lfg_model.specs.ThinText.{lexemes_of}
use Rattle.xle_run.proofs.Cutting.{before}
use Rattle.xle_run.proofs.thin.lexemes.lexemes_of.Given as goal

abbrev pub invariant-loop-token : goal.invariant-loop-token
invariant-loop-token l = before l.lexemes.items (lexemes_of (drop l.token-index l.tokens)) ≡ lexemes_of l.tokens
