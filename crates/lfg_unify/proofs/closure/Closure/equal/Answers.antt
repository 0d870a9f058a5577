use Rattle.std.proofs.Common.{◌≡◌, ℕ, length, ap, subst, ◌∙◌, arith}
use Rattle.lfg_unify.specs.Closures.{Closed, place_in, equal_of}
use Rattle.lfg_unify.proofs.Places.{equal_absent}
use Rattle.lfg_unify.proofs.closure.Closure.equal.Goals as goal

pub row-row-requires : goal.row-row-requires
row-row-requires c = omega (arith, c.in-Some.ensures.within, ap length c.deref.ensures.value, c.self.invariant.count)

pub returns-in_default-place_of : goal.returns-in_default-place_of
returns-in_default-place_of c =
    equal_absent c.self.inside.empty c.self.inside.table c.deref-2.result.now c.self.inside.nodes.items c.args.a.now c.args.b.now c.in-Some.first c.row-row.result.now
    c.self.invariant.count c.deref-2.ensures.value c.in_default-place_of.ensures.missing
    (c.in-Some.ensures.found ∙ ap (λ ns. place_in ns c.args.a.now) c.deref.ensures.value)
    c.row-row.ensures.row c.row-row.ensures.ascends
    ∙ ap (λ (f : Closed). equal_of f c.args.a.now c.args.b.now) c.self.view_is
