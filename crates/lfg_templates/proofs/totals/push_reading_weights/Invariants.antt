use Rattle.std.proofs.Common.{◌≡◌, ◌++◌, map, take}
use Rattle.lfg_model.specs.DraftForms.{template_form, word_form}
use Rattle.lfg_templates.specs.Counts.{call_count, reading_count, capped_weight}
use Rattle.lfg_templates.specs.Views.{weight_of}
use Rattle.lfg_templates.proofs.totals.push_reading_weights.Given as goal

abbrev pub invariant-loop-entry : goal.invariant-loop-entry
invariant-loop-entry l = map weight_of l.out.items ≡ map weight_of l.initial.out.items
    ++ map (λ x. capped_weight (reading_count (call_count (map template_form l.templates) l.depth) (word_form x))) (take l.entry-index l.entries)
