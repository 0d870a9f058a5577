use Rattle.std.proofs.Common.{map, take}
use Rattle.std.specs.Option.{option_map}
use Rattle.lfg_model.specs.DraftForms.{template_form}
use Rattle.lfg_model.specs.TemplateRules.{IsCyclic, template_entry, template_name}
use Rattle.lfg_templates.specs.Spots.{Finds}
use Rattle.lfg_templates.specs.Views.{spot_of}
use Rattle.lfg_templates.proofs.cycles.first_cycle.Given as goal

abbrev pub invariant-loop-template : goal.invariant-loop-template
invariant-loop-template l = Finds template_entry template_name (IsCyclic (map template_form l.templates)) (map template_form (take l.template-index l.list)) (option_map spot_of l.first)
