use Rattle.std.proofs.Common.{rules, ◌≡◌, ◌+◌, ◌++◌, ap, sym, subst, ◌∙◌}
use Rattle.std.specs.Prelude.{IfOk}
use Rattle.lfg_terms.specs.declared.draft.Rhs.{Rhs}
use Rattle.lfg_model.specs.RightSides.{RightSide, optional, star, plus, RightSides, right_side_of, right_sides_of}
use Rattle.lfg_model.specs.Spelling.{SpellsBehind, item_count}
use Rattle.lfg_model.proofs.RightSideViews.{view_item, view_maybe, view_star, view_plus}
use Rattle.lfg_rulegraph.specs.Tables.{crossing}
use Rattle.lfg_rulegraph.specs.Parts.{Adds, RowSoFar, ChoiceSoFar}
use Rattle.lfg_rulegraph.proofs.PartLaws.{row_start, row_step, row_end, choice_start, choice_step, choice_end, item_adds_ok, optional_adds, star_adds, plus_adds}
use Rattle.lfg_rulegraph.proofs.RestLaws.{rest_is, rest_none}
use Rattle.lfg_rulegraph.proofs.spell.+parts.Goals as goal

pub choice_part-loop-branch-init : goal.choice_part-loop-branch-init
choice_part-loop-branch-init t c = choice_start _ _ _ _ c.empty_part-choice.ensures.end c.empty_part-choice.ensures.table

pub choice_part-loop-branch-preserved : goal.choice_part-loop-branch-preserved
choice_part-loop-branch-preserved t c =
    let branches = right_sides_of c.args.branches.now in
    let e = rest_is c.args.branches.now c.loop-branch.branch-index c.branch-item.result c.loop-branch-test.true c.branch-item.is in
    let s = subst (λ (rest : RightSides). ChoiceSoFar branches c.args.before rest c.loop-branch.choice c.args.links.now.items c.loop-branch.links.items) e c.loop-branch.invariant in
    choice_step _ _ _ _ _ _ _ _ _ _ s c.in_ok-next.ensures c.in_ok-choice.ensures.part c.in_ok-choice.ensures.end

pub part_of-returns-in-Item : goal.part_of-returns-in-Item
part_of-returns-in-Item t c =
    let e = ap right_side_of c.in-Item.is ∙ view_item c.in-Item.cat c.in-Item.schemata in
    subst (λ (side : RightSide). IfOk c.item_part.result (λ part. Adds (SpellsBehind c.args.before side) c.args.before (c.args.before + item_count side) part c.args.links.now.items c.args.links.now.items)) (sym e)
    (item_adds_ok c.args.before c.args.links.now.items c.item_part.result c.item_part.ensures.end c.item_part.ensures.table)

pub part_of-returns-in_ok-part-in-Maybe : goal.part_of-returns-in_ok-part-in-Maybe
part_of-returns-in_ok-part-in-Maybe t c =
    let e = ap right_side_of c.in-Maybe.is ∙ view_maybe c.in-Maybe.inside ∙ ap (λ (r : Rhs). optional (right_side_of r)) (sym c.deref-in-Maybe.ensures) in
    subst (λ (side : RightSide). Adds (SpellsBehind c.args.before side) c.args.before (c.args.before + item_count side) c.option_of.result c.args.links.now.items c.part_of.new.links.items) (sym e)
    (optional_adds c.in_ok-part-in-Maybe.ensures c.option_of.result c.option_of.ensures.end c.option_of.ensures.part)

pub part_of-returns-in_ok-connect-in-Star : goal.part_of-returns-in_ok-connect-in-Star
part_of-returns-in_ok-connect-in-Star t c =
    let e = ap right_side_of c.in-Star.is ∙ view_star c.in-Star.inside ∙ ap (λ (r : Rhs). star (right_side_of r)) (sym c.deref-in-Star.ensures) in
    let k : c.connect.new.links.items ≡ c.part_of-in-Star.new.links.items ++ crossing c.in_ok-once-in-Star.once.last.items c.in_ok-once-in-Star.once.first.items = search rules in
    subst (λ (side : RightSide). Adds (SpellsBehind c.args.before side) c.args.before (c.args.before + item_count side) c.option_of-in-Star.result c.args.links.now.items c.connect.new.links.items) (sym e)
    (star_adds c.in_ok-once-in-Star.ensures c.option_of-in-Star.result c.option_of-in-Star.ensures.end c.option_of-in-Star.ensures.part k)

pub part_of-returns-in_ok-connect-in-Plus : goal.part_of-returns-in_ok-connect-in-Plus
part_of-returns-in_ok-connect-in-Plus t c =
    let e = ap right_side_of c.in-Plus.is ∙ view_plus c.in-Plus.inside ∙ ap (λ (r : Rhs). plus (right_side_of r)) (sym c.deref-in-Plus.ensures) in
    let k : c.connect-in-Plus.new.links.items ≡ c.part_of-in-Plus.new.links.items ++ crossing c.in_ok-part-in-Plus.part.last.items c.in_ok-part-in-Plus.part.first.items = search rules in
    subst (λ (side : RightSide). Adds (SpellsBehind c.args.before side) c.args.before (c.args.before + item_count side) c.in_ok-part-in-Plus.part c.args.links.now.items c.connect-in-Plus.new.links.items) (sym e)
    (plus_adds c.in_ok-part-in-Plus.ensures k)

pub row_part-loop-part-init : goal.row_part-loop-part-init
row_part-loop-part-init t c = row_start _ _ _ _ c.empty_part-row.ensures.end c.empty_part-row.ensures.table

pub row_part-loop-part-preserved : goal.row_part-loop-part-preserved
row_part-loop-part-preserved t c =
    let parts = right_sides_of c.args.parts.now in
    let e = rest_is c.args.parts.now c.loop-part.part-index c.part-item.result c.loop-part-test.true c.part-item.is in
    let s = subst (λ (rest : RightSides). RowSoFar parts c.args.before rest c.loop-part.row c.args.links.now.items c.loop-part.links.items) e c.loop-part.invariant in
    row_step _ _ _ _ _ _ _ _ _ _ _ s c.in_ok-next.ensures c.in_ok-row.ensures.part c.in_ok-row.ensures.end (search rules)

pub row_part-returns : goal.row_part-returns
row_part-returns t c =
    let parts = right_sides_of c.args.parts.now in
    let e = rest_none c.args.parts.now c.loop-part.part-index c.loop-part-test.false in
    let s = subst (λ (rest : RightSides). RowSoFar parts c.args.before rest c.loop-part.row c.args.links.now.items c.loop-part.links.items) e c.loop-part.invariant in
    row_end _ _ _ _ _ s

pub choice_part-returns : goal.choice_part-returns
choice_part-returns t c =
    let branches = right_sides_of c.args.branches.now in
    let e = rest_none c.args.branches.now c.loop-branch.branch-index c.loop-branch-test.false in
    let s = subst (λ (rest : RightSides). ChoiceSoFar branches c.args.before rest c.loop-branch.choice c.args.links.now.items c.loop-branch.links.items) e c.loop-branch.invariant in
    choice_end _ _ _ _ _ s
