use Rattle.std.proofs.Common.{refl, ◌∙◌, arith, inl, inr}
use Rattle.lfg_model.proofs.ListLaws.{In-at}
use Rattle.lfg_solve.specs.Descents.{to_member}
use Rattle.lfg_solve.proofs.Dividing.{or_false, or_true}
use Rattle.lfg_solve.proofs.Marking.{PassesMembers-none, PassesMembers-at, Passes-at}
use Rattle.lfg_solve.proofs.cycles.enter_sets.Goals as goal

pub loop-member-init : goal.loop-member-init
loop-member-init c = record {
  length = refl;
  less = omega arith;
  fewer = λ t. cc;
  unchanged = λ e. refl;
  passes = λ e. PassesMembers-none _ _;
  under = λ arcs u. u;
}

pub loop-member-preserved : goal.loop-member-preserved
loop-member-preserved c = record {
  length = c.step-stepped.ensures.length ∙ c.loop-member.invariant.length;
  less = omega arith;
  fewer = λ t. elim (or_true _ _ t) [
    | inl a ↦ let f = c.loop-member.invariant.fewer a in omega arith
    | inr b ↦ let f = c.step-stepped.ensures.fewer b in omega arith
  ];
  unchanged = λ e. let b = or_false _ _ e in c.step-stepped.ensures.unchanged b.1 ∙ c.loop-member.invariant.unchanged b.0;
  passes = λ e.
      let b = or_false _ _ e in
      PassesMembers-at _ _ c.args.members.now c.loop-member.member-index (record { item = 0; set = 0 }) (omega arith) (c.loop-member.invariant.passes b.0)
      (Passes-at _ _ _ _ _ (c.loop-member.invariant.unchanged b.0) (c.step-stepped.ensures.passes b.1));
  under = λ arcs u. c.step-stepped.ensures.under arcs _ (to_member (In-at c.args.members.now c.loop-member.member-index (record { item = 0; set = 0 }) (omega arith)) refl refl) (c.loop-member.invariant.under arcs u);
}
