use Rattle.std.proofs.Common.{◌≡◌, ℕ, length, ap, subst, ◌∙◌, arith}
use Rattle.lfg_unify.specs.Closures.{Closed, Ascends}
use Rattle.lfg_unify.proofs.closure.Closure.equals.Goals as goal

pub row-requires : goal.row-requires
row-requires c = omega (arith, c.requires, ap (λ (f : Closed). length f.nodes) c.self.view_is, c.self.invariant.count)

pub returns-clause-ascends : goal.returns-clause-ascends
returns-clause-ascends c =
    let n : length c.self.inside.table ≡ length c.args.self.now.nodes = c.self.invariant.count ∙ ap (λ (f : Closed). length f.nodes) c.self.view_is in
    subst (λ (m : ℕ). Ascends m 0 c.row.result.now) n c.row.ensures.ascends
