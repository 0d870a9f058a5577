use Rattle.std.proofs.Common.{rules, map}
use Rattle.lfg_model.specs.DraftForms.{template_form}
use Rattle.lfg_templates.proofs.Siding.{becomes_bare, becomes_annotated, some_leads}
use Rattle.lfg_templates.proofs.sides.expand_item.Goals as goal

pub returns-in_default : goal.returns-in_default
returns-in_default c = becomes_bare (map template_form c.args.templates.now) c.args.cat.now c.in_ok-cat.cat c.args.schemata.now c.item.result (search rules) (search rules) c.item.ensures

pub expand_all-requires : goal.expand_all-requires
expand_all-requires c = rw c.deref.ensures.value (some_leads (map template_form c.args.templates.now) c.args.depth c.args.schemata.now c.in-Some.schemata c.in-Some.is c.requires)

pub returns : goal.returns
returns c = becomes_annotated (map template_form c.args.templates.now) c.args.cat.now c.in_ok-cat.cat c.args.schemata.now c.in-Some.schemata c.in_ok-schemata.schemata.items c.item-2.result c.in-Some.is (search rules) c.item-2.ensures (rw (← c.deref.ensures.value) c.in_ok-schemata.ensures)
