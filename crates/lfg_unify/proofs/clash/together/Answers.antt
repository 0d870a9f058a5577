use Rattle.std.proofs.Common.{◌≡◌, ℕ, true, ◌&&◌, length, sym, ◌∙◌, ap, subst}
use Rattle.lfg_context.specs.Seen.{Set}
use Rattle.lfg_context.specs.Sets.{member, IsMade}
use Rattle.lfg_unify.specs.Closures.{Row}
use Rattle.lfg_unify.specs.Rows.{IsRow, Stands}
use Rattle.lfg_unify.proofs.SweepLaws.{context_made, context_stands, stands_context}
use Rattle.lfg_unify.proofs.ClashLaws.{together_tells}
use Rattle.lfg_unify.proofs.clash.together.Goals as goal

pub and-requires-clause-a_made : goal.and-requires-clause-a_made
and-requires-clause-a_made c =
    subst (λ (z : Set). IsMade c.args.contexts.now z) (sym c.context_at-same.ensures)
    (context_made c.args.empty.now c.row.result.now c.args.place c.requires.empty_made
    (subst (λ (r : Row). IsRow c.args.contexts.now r) (sym c.row.ensures.row) (c.requires.rows.each c.args.first.now.0.0)))

pub returns-clause-tells : goal.returns-clause-tells
returns-clause-tells c =
    together_tells c.args.table.now c.args.first.now (c.args.place, c.args.ctx.now) c.context_at-same.result.now c.in_ok-all.all
    (λ a h. subst (λ (r : Row). Stands r a c.args.place) c.row.ensures.row
    (context_stands c.args.empty.now c.row.result.now a c.args.place (c.requires.none a) (sym (ap (λ z. member z a) c.context_at-same.ensures) ∙ h)))
    (λ a h. ap (λ z. member z a) c.context_at-same.ensures
    ∙ stands_context c.args.empty.now (length c.args.table.now) 0 c.row.result.now a c.args.place c.row.ensures.ascends (subst (λ (r : Row). Stands r a c.args.place) (sym c.row.ensures.row) h))
    (λ a. c.in_ok-all.ensures.ok.members a ∙ ap (λ b. b && member c.args.ctx.now a) (c.in_ok-both.ensures.ok.members a))
