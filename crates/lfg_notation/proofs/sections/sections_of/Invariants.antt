use Rattle.std.proofs.Common.{◌≡◌, ◌+◌, ◌≤◌, length, map}
use Rattle.lfg_model.specs.declared.notation.Separator.TheVariants.{Divider}
use Rattle.lfg_model.specs.Drafts.{sections_from, sections_of}
use Rattle.lfg_model.specs.EntryNotation.{cut}
use Rattle.lfg_notation.specs.Views.{section_form, sections_size}
use Rattle.lfg_notation.proofs.sections.sections_of.Given as goal

abbrev pub invariant-loop-rest : goal.invariant-loop-rest
invariant-loop-rest l = record {
  few : l.number + length l.rest ≤ length l.lexemes + 1;
  size : sections_size l.sections.items + length l.rest ≤ length l.lexemes;
  read : sections_from l.number (map section_form l.sections.items) (cut Divider l.rest) ≡ sections_of l.lexemes;
}

abbrev pub decreases-loop-rest : goal.decreases-loop-rest
decreases-loop-rest l = length l.rest
