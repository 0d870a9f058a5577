use Rattle.std.proofs.Common.{◌≡◌, ◌+◌, ◌≤◌, length}
use Rattle.lfg_model.specs.declared.notation.Separator.TheVariants.{Stop}
use Rattle.lfg_model.specs.Drafts.{entries_from}
use Rattle.lfg_model.specs.EntryNotation.{cut}
use Rattle.lfg_notation.specs.Views.{parts_form}
use Rattle.lfg_notation.proofs.entries.section_read.Given as goal

abbrev pub invariant-loop-rest : goal.invariant-loop-rest
invariant-loop-rest l = record {
  few : l.number + length l.rest ≤ l.initial.number + length l.lexemes;
  read : entries_from l.kind l.number (parts_form l.parts) (cut Stop l.rest) ≡ entries_from l.kind l.initial.number (parts_form l.initial.parts) (cut Stop l.lexemes);
}

abbrev pub decreases-loop-rest : goal.decreases-loop-rest
decreases-loop-rest l = length l.rest
