use Rattle.std.proofs.Common.{map, take}
use Rattle.lfg_model.specs.DraftForms.{template_form, word_form}
use Rattle.lfg_model.specs.Templates.{Each, ReadingBecomes}
use Rattle.lfg_templates.proofs.plain.expand_readings.Given as goal

abbrev pub invariant-loop-entry : goal.invariant-loop-entry
invariant-loop-entry l = Each (ReadingBecomes (map template_form l.templates)) (map word_form (take l.entry-index l.entries)) (map word_form l.out.items)
