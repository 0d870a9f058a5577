use Rattle.std.proofs.Common.{refl, ◌∙◌, arith, inl, inr}
use Rattle.lfg_solve.specs.Descents.{by_arc}
use Rattle.lfg_solve.proofs.Dividing.{In-read, or_false, or_true}
use Rattle.lfg_solve.proofs.Marking.{PassesArcs-none, PassesArcs-read, Passes-at}
use Rattle.lfg_solve.proofs.cycles.follow_arcs.Goals as goal

pub loop-arc-init : goal.loop-arc-init
loop-arc-init c = record {
  length = refl;
  less = omega arith;
  fewer = λ t. cc;
  unchanged = λ e. refl;
  passes = λ e. PassesArcs-none _ _;
  under = λ members u. u;
}

pub loop-arc-preserved : goal.loop-arc-preserved
loop-arc-preserved c = record {
  length = c.step-stepped.ensures.length ∙ c.loop-arc.invariant.length;
  less = omega arith;
  fewer = λ t. elim (or_true _ _ t) [
    | inl a ↦ let f = c.loop-arc.invariant.fewer a in omega arith
    | inr b ↦ let f = c.step-stepped.ensures.fewer b in omega arith
  ];
  unchanged = λ e. let b = or_false _ _ e in c.step-stepped.ensures.unchanged b.1 ∙ c.loop-arc.invariant.unchanged b.0;
  passes = λ e.
      let b = or_false _ _ e in
      PassesArcs-read _ _ _ _ _ (omega arith) c.arc-item.is (c.loop-arc.invariant.passes b.0) (Passes-at _ _ _ _ _ (c.loop-arc.invariant.unchanged b.0) (c.step-stepped.ensures.passes b.1));
  under = λ members u. c.step-stepped.ensures.under _ members (by_arc (In-read _ _ _ (omega arith) c.arc-item.is) refl refl) (c.loop-arc.invariant.under members u);
}
