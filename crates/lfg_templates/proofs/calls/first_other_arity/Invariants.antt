use Rattle.std.proofs.Common.{map, take}
use Rattle.std.specs.Option.{option_map}
use Rattle.lfg_model.specs.DraftForms.{template_form}
use Rattle.lfg_model.specs.TemplateRules.{call_entry, HasOtherArity, call_name}
use Rattle.lfg_templates.specs.Spots.{Finds}
use Rattle.lfg_templates.specs.Views.{called_of, spot_of}
use Rattle.lfg_templates.proofs.calls.first_other_arity.Given as goal

abbrev pub invariant-loop-call : goal.invariant-loop-call
invariant-loop-call l = Finds call_entry call_name (HasOtherArity (map template_form l.templates)) (map called_of (take l.call-index l.calls)) (option_map spot_of l.first)
