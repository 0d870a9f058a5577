use Rattle.std.proofs.Common.{List, ℕ, refl, subst, ◌∙◌, arith, inl, inr}
use Rattle.lfg_solve.specs.Divides.{Meets}
use Rattle.lfg_solve.proofs.Dividing.{Grows-refl, Grows-trans, MeetsAll-none, MeetsAll-read, In-read, or_false, or_true}
use Rattle.lfg_solve.proofs.classes.join_targets.Goals as goal

pub loop-arc-init : goal.loop-arc-init
loop-arc-init c = record {
  length = refl;
  less = omega arith;
  fewer = λ t. cc;
  grown = Grows-refl _;
  forced = λ count given d. d;
  unchanged = λ e. refl;
  met = λ e. MeetsAll-none _ _;
}

pub join_target-joined-requires-clause-listed : goal.join_target-joined-requires-clause-listed
join_target-joined-requires-clause-listed c = In-read _ _ _ (omega arith) c.arc-item.is

pub loop-arc-preserved : goal.loop-arc-preserved
loop-arc-preserved c = record {
  length = c.join_target-joined.ensures.length ∙ c.loop-arc.invariant.length;
  less = omega arith;
  fewer = λ t. elim (or_true _ _ t) [
    | inl a ↦ let f = c.loop-arc.invariant.fewer a in omega arith
    | inr b ↦ let f = c.join_target-joined.ensures.fewer b in omega arith
  ];
  grown = Grows-trans c.loop-arc.invariant.grown c.join_target-joined.ensures.grown;
  forced = λ count given d. c.join_target-joined.ensures.forced count given (c.loop-arc.invariant.forced count given d);
  unchanged = λ e. let b = or_false _ _ e in c.join_target-joined.ensures.unchanged b.1 ∙ c.loop-arc.invariant.unchanged b.0;
  met = λ e.
      let b = or_false _ _ e in
      MeetsAll-read _ _ _ _ _ (omega arith) c.arc-item.is (c.loop-arc.invariant.met b.0) (subst (λ (l : List ℕ). Meets l c.arc-item.result c.args.arcs.now) (c.loop-arc.invariant.unchanged b.0) (c.join_target-joined.ensures.met b.1));
}
