use Rattle.std.proofs.Common.{◌≡◌, false, rules, ◌∙◌}
use Rattle.lfg_solve.proofs.Dividing.{divides, HoldsGiven-grown}
use Rattle.lfg_solve.proofs.classes.close.Goals as goal

pub loop-classes-init : goal.loop-classes-init
loop-classes-init c = record {
  length = c.join_given.ensures.length ∙ c.in_ok-classes.ensures.length;
  division = c.join_given.ensures.forced _ c.args.arcs.now (c.in_ok-classes.ensures.alone c.args.given.now c.args.arcs.now);
  given = c.join_given.ensures.given;
}

pub returns-then-not-join_targets-clause-divides : goal.returns-then-not-join_targets-clause-divides
returns-then-not-join_targets-clause-divides c =
    let f : c.join_targets.result ≡ false = search rules in
    rw (c.join_targets.ensures.unchanged f) (divides _ _ _ _ c.loop-classes.invariant.division c.loop-classes.invariant.given (c.join_targets.ensures.met f))

pub loop-classes-preserved : goal.loop-classes-preserved
loop-classes-preserved c = record {
  length = c.join_targets.ensures.length ∙ c.loop-classes.invariant.length;
  division = c.join_targets.ensures.forced _ _ c.loop-classes.invariant.division;
  given = HoldsGiven-grown _ c.loop-classes.invariant.given c.join_targets.ensures.grown;
}
