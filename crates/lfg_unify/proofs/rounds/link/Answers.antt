use Rattle.std.proofs.Common.{◌≡◌, ℕ, true, ◌&&◌, length, sym, ◌∙◌, ap, subst}
use Rattle.lfg_context.specs.Seen.{Set}
use Rattle.lfg_context.specs.Sets.{Assignment, member, IsMade}
use Rattle.lfg_unify.specs.Closures.{Row, context_in}
use Rattle.lfg_unify.specs.Rows.{row_of, IsRow, Stands, Has}
use Rattle.lfg_unify.proofs.SweepLaws.{context_made, context_stands, stands_context, link_growth, link_links}
use Rattle.lfg_unify.proofs.rounds.link.Goals as goal

pub and-requires-clause-a_made : goal.and-requires-clause-a_made
and-requires-clause-a_made c =
    subst (λ (z : Set). IsMade c.args.contexts.now z) (sym c.context_at-sources.ensures)
    (context_made c.args.empty.now c.row.result.now c.args.second.now.0.0 c.requires.empty_made
    (subst (λ (r : Row). IsRow c.args.contexts.now r) (sym c.row.ensures.row) (c.requires.rows.each c.args.first.now.0.0)))

pub returns-clause-growth : goal.returns-clause-growth
returns-clause-growth c = λ arcs i j.
    link_growth arcs c.args.table.now c.widen.new.self c.args.first.now c.args.second.now c.context_at-sources.result.now c.in_ok-all.all i j (c.same_name.ensures.0 c.if-not-same_name.false)
    c.in_ok-changed.ensures.len c.in_ok-changed.ensures.others c.in_ok-changed.ensures.step
    (λ a h. subst (λ (r : Row). Stands r a c.args.second.now.0.0) c.row.ensures.row
    (context_stands c.args.empty.now c.row.result.now a c.args.second.now.0.0 (c.requires.none a) (sym (ap (λ z. member z a) c.context_at-sources.ensures) ∙ h)))
    (λ a. c.in_ok-all.ensures.ok.members a ∙ ap (λ b. b && member c.args.second.now.1 a) (c.in_ok-both.ensures.ok.members a))

pub returns-clause-linked : goal.returns-clause-linked
returns-clause-linked c = λ a l.
    link_links c.args.table.now (row_of c.widen.new.self c.args.first.now.0.2) c.args.first.now c.args.second.now c.context_at-sources.result.now c.in_ok-all.all a c.in_ok-changed.ensures.step
    (λ h. ap (λ z. member z a) c.context_at-sources.ensures
    ∙ stands_context c.args.empty.now (length c.args.table.now) 0 c.row.result.now a c.args.second.now.0.0 c.row.ensures.ascends
    (subst (λ (r : Row). Stands r a c.args.second.now.0.0) (sym c.row.ensures.row) h))
    (λ a. c.in_ok-all.ensures.ok.members a ∙ ap (λ b. b && member c.args.second.now.1 a) (c.in_ok-both.ensures.ok.members a)) l
