use Rattle.std.proofs.Common.{◌≡◌, map, take}
use Rattle.lfg_model.specs.DraftForms.{template_form}
use Rattle.lfg_templates.specs.Graphs.{row_of}
use Rattle.lfg_templates.proofs.cycles.graph_of.Given as goal

abbrev pub invariant-loop-template : goal.invariant-loop-template
invariant-loop-template l = map (λ r. r.items) l.out.items ≡ map (row_of (map template_form l.templates)) (map template_form (take l.template-index l.list))
