use Rattle.std.proofs.Common.{◌≡◌, map, drop}
use Rattle.lfg_model.specs.Drafts.{has_kind}
use Rattle.lfg_notation.specs.Views.{section_form}
use Rattle.lfg_notation.proofs.sections.has_kind.Given as goal

abbrev pub invariant-loop-section : goal.invariant-loop-section
invariant-loop-section l = has_kind l.kind (map section_form l.sections) ≡ has_kind l.kind (map section_form (drop l.section-index l.sections))
