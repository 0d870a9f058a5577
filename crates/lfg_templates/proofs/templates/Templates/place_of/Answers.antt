use Rattle.std.proofs.Common.{sym, ◌∙◌, ap, map, length, Some}
use Rattle.lfg_model.specs.DraftForms.{template_form}
use Rattle.lfg_templates.proofs.Placing.{found_place, missing_place}
use Rattle.lfg_templates.proofs.templates.Templates.place_of.Goals as goal

pub returns-in-Some : goal.returns-in-Some
returns-in-Some c = sym (found_place c.args.self.now c.args.name.now c.in-Some.place (sym c.first_place.ensures ∙ c.in-Some.is))

pub returns-in-None : goal.returns-in-None
returns-in-None c = ap length c.list.ensures ∙ sym (missing_place c.args.self.now c.args.name.now (sym c.first_place.ensures ∙ c.in-None.is))
