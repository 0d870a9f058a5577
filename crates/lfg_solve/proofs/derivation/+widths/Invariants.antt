use Rattle.std.proofs.Common.{◌≡◌, ◌+◌, ◌-◌, ◌^◌, ◌<◌, min, drop}
use Rattle.lfg_model.specs.Trees.{parts_width}
use Rattle.lfg_solve.specs.Views.{parts_from}
use Rattle.lfg_solve.proofs.derivation.+widths.Given as goal

abbrev pub invariant-parts_width-loop-part : goal.invariant-parts_width-loop-part
invariant-parts_width-loop-part l =
    record { same : min (l.sum + parts_width (parts_from (drop l.part-index l.parts))) (2 ^ 32 - 1) ≡ min (parts_width (parts_from l.parts)) (2 ^ 32 - 1); within : l.sum < 2 ^ 32 }
