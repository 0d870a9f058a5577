use Rattle.std.proofs.Common.{◌≡◌, map, take}
use Rattle.lfg_model.specs.DraftForms.{template_form}
use Rattle.lfg_templates.specs.Graphs.{place_in}
use Rattle.lfg_templates.proofs.cycles.places_of.Given as goal

abbrev pub invariant-loop-call : goal.invariant-loop-call
invariant-loop-call l = l.out.items ≡ map (λ c. place_in (map template_form l.templates) c.name.now) (take l.call-index l.calls)
