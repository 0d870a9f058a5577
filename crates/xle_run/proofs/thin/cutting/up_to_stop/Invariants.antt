use Rattle.std.proofs.Common.{◌≡◌, take, drop}
use Rattle.lfg_model.specs.ThinText.{up_to, is_stop}
use Rattle.xle_run.proofs.Cutting.{with_front}
use Rattle.xle_run.proofs.thin.cutting.up_to_stop.Given as goal

abbrev pub invariant-loop-i : goal.invariant-loop-i
invariant-loop-i l = up_to is_stop l.lexemes ≡ with_front (take l.i l.lexemes) (up_to is_stop (drop l.i l.lexemes))
