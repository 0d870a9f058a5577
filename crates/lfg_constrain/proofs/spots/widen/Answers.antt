use Rattle.std.proofs.Common.{◌≡◌, ◌<◌, ℕ, List, length, get_or, subst, sym, ◌∙◌, ap}
use Rattle.lfg_context.specs.Seen.{Set}
use Rattle.lfg_unify.specs.Closures.{Row}
use Rattle.lfg_unify.specs.Rows.{Widens}
use Rattle.lfg_constrain.proofs.SpotLaws.{widen_set, widen_push}
use Rattle.lfg_constrain.proofs.spots.widen.Goals as goal

pub returns-in-Some-clause-step : goal.returns-in-Some-clause-step
returns-in-Some-clause-step c =
    let P : Row → Type 0 = λ v. c.in-Some.number < length v in
    let Q : Row → Type 0 = λ v. (d : ℕ × Set) → (get_or v c.in-Some.number d).0 ≡ c.args.place in
    widen_set c.args.spots.now.items c.in-Some.number c.args.place c.index.result.now c.args.ctx.now c.in_ok-wider.wider (subst P c.deref.ensures.value c.in-Some.ensures.within) c.index.ensures
    (ap (λ (r : ℕ × Set). r.0) c.index.ensures ∙ subst Q c.deref.ensures.value c.in-Some.ensures.at c.index.result.now) c.in_ok-wider.ensures.ok.members

pub returns-clause-step : goal.returns-clause-step
returns-clause-step c =
    let P : Row → Type 0 = λ v. Widens c.args.spots.now.items c.args.place c.args.ctx.now v in
    subst P (sym c.in_ok-push.ensures.items) (widen_push c.args.spots.now.items c.args.place c.args.ctx.now c.in_ok-share.field-0 c.in_ok-share.ensures)
