use Rattle.std.proofs.Common.{◌+◌, arith}
use Rattle.lfg_context.proofs.Growing.{grown_trans, picks_kept}
use Rattle.lfg_context.proofs.Depending.{depends_pick, depends_and, depends_or}
use Rattle.lfg_context.proofs.tests.equal_to_next.Goals as goal

pub returns-in_err-equal-clause-grown : goal.returns-in_err-equal-clause-grown
returns-in_err-equal-clause-grown c = grown_trans (grown_trans (grown_trans (grown_trans c.loop-alternative.invariant.grown c.pick.ensures.grown) c.pick-in-loop-alternative.ensures.grown) c.and.ensures.grown) c.or.ensures.grown

pub loop-alternative-preserved : goal.loop-alternative-preserved
loop-alternative-preserved c =
    let here = depends_pick _ c.args.choice _ c.loop-alternative.alternative (omega (arith, c.requires.next)) c.in_ok-here.ensures.ok in
    let there = depends_pick _ (c.args.choice + 1) _ c.loop-alternative.alternative c.requires.next c.in_ok-there.ensures.ok in
    let both = depends_and here there c.in_ok-both.ensures.ok in
    record {
      made = c.in_ok-equal.ensures.ok.made;
      depends = depends_or c.loop-alternative.invariant.depends both c.in_ok-equal.ensures.ok;
      grown = grown_trans (grown_trans (grown_trans (grown_trans c.loop-alternative.invariant.grown c.pick.ensures.grown) c.pick-in-loop-alternative.ensures.grown) c.and.ensures.grown) c.or.ensures.grown;
      picks = picks_kept c.or.ensures.picks (picks_kept c.and.ensures.picks (c.pick-in-loop-alternative.ensures.picks (c.pick.ensures.picks c.loop-alternative.invariant.picks)));
    }
