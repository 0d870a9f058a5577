use Rattle.std.proofs.Common.{rules, arith, map, ap, ◌∙◌, List, subst}
use Rattle.std.proofs.lemmas.List.{take_all}
use Rattle.lfg_terms.specs.declared.draft.Rhs.{Rhs}
use Rattle.lfg_terms.specs.declared.draft.Rhs.TheViews.{the_lemmas}
use Rattle.lfg_model.specs.RightSides.{right_side_of, right_sides_of}
use Rattle.lfg_model.specs.DraftForms.{template_form}
use Rattle.lfg_model.specs.Templates.{SidesBecome, no_part}
use Rattle.lfg_model.proofs.RightSideViews.{view_row, view_maybe}
use Rattle.lfg_templates.proofs.Siding.{becomes_row, becomes_one_of, becomes_maybe, becomes_star, becomes_plus, sides_more, part_leads, leads_at}
use Rattle.lfg_templates.proofs.sides.+side.Goals as goal

pub expand_sides-loop-side-init : goal.expand_sides-loop-side-init
expand_sides-loop-side-init t c = rw c.new-out.ensures.items no_part

pub expand_sides-expand_side-requires : goal.expand_sides-expand_side-requires
expand_sides-expand_side-requires t c = (search (rules, the_lemmas), part_leads (map template_form c.args.templates.now) c.args.depth c.args.sides.now c.loop-side.side-index c.side-item.result c.loop-side-test.true c.side-item.is c.requires)

pub expand_sides-loop-side-preserved : goal.expand_sides-loop-side-preserved
expand_sides-loop-side-preserved t c = sides_more (map template_form c.args.templates.now) c.args.sides.now c.loop-side.side-index c.side-item.result c.loop-side.out.items c.in_ok-expand_side.field-0 c.push.new.self.items c.loop-side-test.true c.side-item.is c.in_ok-push.ensures.items c.loop-side.invariant c.in_ok-expand_side.ensures

pub expand_sides-returns : goal.expand_sides-returns
expand_sides-returns t c = subst (λ (xs : List Rhs). SidesBecome (map template_form c.args.templates.now) (right_sides_of xs) (right_sides_of c.loop-side.out.items)) (take_all c.loop-side.side-index c.args.sides.now (omega arith)) c.loop-side.invariant

pub expand_side-returns-in_ok-expand_sides-in-Row : goal.expand_side-returns-in_ok-expand_sides-in-Row
expand_side-returns-in_ok-expand_sides-in-Row t c = becomes_row (map template_form c.args.templates.now) c.args.side.now c.row.result c.in-Row.parts c.in_ok-expand_sides-in-Row.field-0.items c.in-Row.is c.row.ensures (rw (← c.deref.ensures.value) c.in_ok-expand_sides-in-Row.ensures)

pub expand_side-returns-in_ok-expand_sides-in-OneOf : goal.expand_side-returns-in_ok-expand_sides-in-OneOf
expand_side-returns-in_ok-expand_sides-in-OneOf t c = becomes_one_of (map template_form c.args.templates.now) c.args.side.now c.one_of.result c.in-OneOf.branches c.in_ok-expand_sides-in-OneOf.field-0.items c.in-OneOf.is c.one_of.ensures (rw (← c.deref-in-OneOf.ensures.value) c.in_ok-expand_sides-in-OneOf.ensures)

pub expand_side-returns-in_ok-expand_side-in-Maybe : goal.expand_side-returns-in_ok-expand_side-in-Maybe
expand_side-returns-in_ok-expand_side-in-Maybe t c = becomes_maybe (map template_form c.args.templates.now) c.args.side.now c.in-Maybe.inside c.in_ok-expand_side-in-Maybe.field-0 c.maybe.result c.in-Maybe.is c.maybe.ensures (rw (← c.deref-in-Maybe.ensures) c.in_ok-expand_side-in-Maybe.ensures)

pub expand_side-returns-in_ok-expand_side-in-Star : goal.expand_side-returns-in_ok-expand_side-in-Star
expand_side-returns-in_ok-expand_side-in-Star t c = becomes_star (map template_form c.args.templates.now) c.args.side.now c.in-Star.inside c.in_ok-expand_side-in-Star.field-0 c.star.result c.in-Star.is c.star.ensures (rw (← c.deref-in-Star.ensures) c.in_ok-expand_side-in-Star.ensures)

pub expand_side-returns-in_ok-expand_side-in-Plus : goal.expand_side-returns-in_ok-expand_side-in-Plus
expand_side-returns-in_ok-expand_side-in-Plus t c = becomes_plus (map template_form c.args.templates.now) c.args.side.now c.in-Plus.inside c.in_ok-expand_side-in-Plus.field-0 c.plus.result c.in-Plus.is c.plus.ensures (rw (← c.deref-in-Plus.ensures) c.in_ok-expand_side-in-Plus.ensures)

pub expand_side-expand_sides-requires : goal.expand_side-expand_sides-requires
expand_side-expand_sides-requires t c = (search (rules, the_lemmas), rw c.deref.ensures.value (leads_at (map template_form c.args.templates.now) c.args.depth _ _ (ap right_side_of c.in-Row.is ∙ view_row c.in-Row.parts) c.requires))

pub expand_side-expand_side-requires : goal.expand_side-expand_side-requires
expand_side-expand_side-requires t c = (search (rules, the_lemmas), rw c.deref-in-Maybe.ensures (leads_at (map template_form c.args.templates.now) c.args.depth _ _ (ap right_side_of c.in-Maybe.is ∙ view_maybe c.in-Maybe.inside) c.requires))
