use Rattle.std.proofs.Common.{◌≡◌, ◌+◌, ◌≤◌, map, drop}
use Rattle.lfg_model.specs.Drafts.{empty_draft, sections_read}
use Rattle.lfg_notation.specs.Views.{parts_form, section_form, sections_size}
use Rattle.lfg_notation.proofs.draft.sections_read.Given as goal

abbrev pub invariant-loop-section : goal.invariant-loop-section
invariant-loop-section l = record {
  few : l.number + sections_size (drop l.section-index l.sections) ≤ 1 + sections_size l.sections;
  read : sections_read l.number (parts_form l.parts) (map section_form (drop l.section-index l.sections)) ≡ sections_read 1 empty_draft (map section_form l.sections);
}
