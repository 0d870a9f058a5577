use Rattle.std.proofs.Common.{◌≡◌, ◌++◌, map, take}
use Rattle.std.specs.List.{flat_map}
use Rattle.lfg_model.specs.DraftForms.{word_form}
use Rattle.lfg_model.specs.TemplateRules.{reading_calls}
use Rattle.lfg_templates.specs.Views.{called_of}
use Rattle.lfg_templates.proofs.calls.push_reading_calls.Given as goal

abbrev pub invariant-loop-entry : goal.invariant-loop-entry
invariant-loop-entry l = map called_of l.out.items ≡ map called_of l.initial.out.items ++ flat_map (λ x. reading_calls (word_form x)) (take l.entry-index l.entries)
