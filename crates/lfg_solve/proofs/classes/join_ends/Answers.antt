use Rattle.std.proofs.Common.{◌≡◌, List, ℕ, Some, ap, sym, subst, ◌∙◌, arith}
use Rattle.lfg_solve.specs.Divides.{OneClass, by_label}
use Rattle.lfg_solve.proofs.Dividing.{division_along}
use Rattle.lfg_solve.proofs.classes.join_ends.Goals as goal

pub returns-then-eq-clause-forced : goal.returns-then-eq-clause-forced
returns-then-eq-clause-forced c =
    let e : c.of.result ≡ c.of-2.result = omega arith in
    let o : OneClass c.args.classes.now c.args.arc.now.from c.args.other.now.from = by_label c.of.ensures (c.of-2.ensures ∙ ap (λ x. Some x) (sym e)) in
    λ count given arcs i j d. division_along count given arcs _ _ c.args.arc.now c.args.other.now i j (c.eq.ensures.same.0 c.if-eq.true) o d c.join.ensures.joins c.join.ensures.length

pub returns-then-eq-clause-met : goal.returns-then-eq-clause-met
returns-then-eq-clause-met c = λ u o e. subst (λ (l : List ℕ). OneClass l c.args.arc.now.to c.args.other.now.to) (c.join.ensures.unchanged u) c.join.ensures.joins.both
