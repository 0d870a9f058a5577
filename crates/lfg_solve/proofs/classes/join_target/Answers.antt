use Rattle.std.proofs.Common.{refl, ◌∙◌, arith, inl, inr}
use Rattle.lfg_solve.proofs.Dividing.{Grows-refl, Grows-trans, Meets-none, Meets-read, In-read, met_at, or_false, or_true}
use Rattle.lfg_solve.proofs.classes.join_target.Goals as goal

pub loop-other-init : goal.loop-other-init
loop-other-init c = record {
  length = refl;
  less = omega arith;
  fewer = λ t. cc;
  grown = Grows-refl _;
  forced = λ count given d. d;
  unchanged = λ e. refl;
  met = λ e. Meets-none _ _;
}

pub loop-other-preserved : goal.loop-other-preserved
loop-other-preserved c = record {
  length = c.join_ends-joined.ensures.length ∙ c.loop-other.invariant.length;
  less = omega arith;
  fewer = λ t. elim (or_true _ _ t) [
    | inl a ↦ let f = c.loop-other.invariant.fewer a in omega arith
    | inr b ↦ let f = c.join_ends-joined.ensures.fewer b in omega arith
  ];
  grown = Grows-trans c.loop-other.invariant.grown c.join_ends-joined.ensures.grown;
  forced = λ count given d. c.join_ends-joined.ensures.forced count given c.args.arcs.now c.requires.listed (In-read _ _ _ (omega arith) c.other-item.is) (c.loop-other.invariant.forced count given d);
  unchanged = λ e. let b = or_false _ _ e in c.join_ends-joined.ensures.unchanged b.1 ∙ c.loop-other.invariant.unchanged b.0;
  met = λ e.
      let b = or_false _ _ e in
      Meets-read _ _ _ _ _ (omega arith) c.other-item.is (c.loop-other.invariant.met b.0) (met_at _ _ _ _ (c.loop-other.invariant.unchanged b.0) (c.join_ends-joined.ensures.met b.1));
}
