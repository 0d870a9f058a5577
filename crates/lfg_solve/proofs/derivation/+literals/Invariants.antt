use Rattle.std.proofs.Common.{◌≡◌, ◌+◌, ◌^◌, ◌<◌, ◌++◌, drop}
use Rattle.lfg_model.specs.Trees.{parts_width, parts_literals}
use Rattle.lfg_solve.specs.Fits.{ItemsFit, FormsFit}
use Rattle.lfg_solve.specs.Views.{parts_from}
use Rattle.lfg_solve.proofs.derivation.+literals.Given as goal

abbrev pub invariant-push_parts_literals-loop-part : goal.invariant-push_parts_literals-loop-part
invariant-push_parts_literals-loop-part l =
    FormsFit l.grammar → ItemsFit l.mother.items.now → l.initial.at + parts_width (parts_from l.parts) < 2 ^ 32
    → (l.at + parts_width (parts_from (drop l.part-index l.parts)) ≡ l.initial.at + parts_width (parts_from l.parts))
    × (l.list.items ++ parts_literals l.grammar l.mother.items.now l.mother.edge.now (parts_from (drop l.part-index l.parts)) l.at
    ≡ l.initial.list.items ++ parts_literals l.grammar l.mother.items.now l.mother.edge.now (parts_from l.parts) l.initial.at)
