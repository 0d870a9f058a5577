use Rattle.std.proofs.Common.{arith, map, sym, ◌++◌, ◌∷◌, [], subst, Option}
use Rattle.std.specs.Option.{option_map}
use Rattle.lfg_model.specs.DraftForms.{template_form}
use Rattle.lfg_model.specs.TemplateRules.{IsCyclic, template_entry, template_name}
use Rattle.lfg_model.proofs.ListLaws.{In-map}
use Rattle.lfg_templates.specs.Spots.{Spot, Finds}
use Rattle.lfg_templates.specs.Views.{spot_of}
use Rattle.lfg_templates.proofs.Cycling.{in_place, graph_length, cyclic_from_walks, walks_from_cyclic}
use Rattle.lfg_templates.proofs.Firsts.{finds_more, finds_same}
use Rattle.lfg_templates.proofs.cycles.with_cycle.Goals as goal

pub leads_back-requires : goal.leads_back-requires
leads_back-requires c =
    let l = in_place (map template_form c.args.templates.now) (template_form c.args.template.now) (In-map template_form c.requires.among) in
    let m = graph_length (map template_form c.args.templates.now) c.args.graph.now c.requires.graph in
    let e = c.place_of-place.ensures in
    omega (arith, l, m, e)

pub returns-then-not-branch : goal.returns-then-not-branch
returns-then-not-branch c = λ us f. finds_same template_entry template_name (IsCyclic (map template_form c.args.templates.now)) us (option_map spot_of c.args.first) (template_form c.args.template.now) f
    (λ r. c.in_ok-leads_back.ensures.no c.if-not-branch.true (walks_from_cyclic (map template_form c.args.templates.now) c.args.graph.now (template_form c.args.template.now) c.place_of-place.result c.requires.graph c.place_of-place.ensures r))

pub returns : goal.returns
returns c = λ us f.
    let l = in_place (map template_form c.args.templates.now) (template_form c.args.template.now) (In-map template_form c.requires.among) in
    subst (λ (o : Option Spot). Finds template_entry template_name (IsCyclic (map template_form c.args.templates.now)) (us ++ template_form c.args.template.now ∷ []) o) (sym c.earlier.ensures)
    (finds_more template_entry template_name (IsCyclic (map template_form c.args.templates.now)) us (option_map spot_of c.args.first) (template_form c.args.template.now) f
    (cyclic_from_walks (map template_form c.args.templates.now) c.args.graph.now (template_form c.args.template.now) c.place_of-place.result c.requires.graph c.place_of-place.ensures l (c.in_ok-leads_back.ensures.yes c.if-not-branch.false)))
