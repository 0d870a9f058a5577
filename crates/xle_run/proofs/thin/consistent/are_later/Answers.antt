use Rattle.std.specs.BTreeMap.{get}
use Rattle.lfg_terms.specs.Order.{name_cmp}
use Rattle.xle_run.proofs.Consistency.{later_stops, later_goes}
use Rattle.xle_run.proofs.thin.consistent.are_later.Goals as goal

pub returns-then-not-daughters_are_later : goal.returns-then-not-daughters_are_later
returns-then-not-daughters_are_later c =
    later_stops (get name_cmp c.args.heads.now) c.args.phrases.now c.loop-i.i c.index-phrases-i.result c.deref.result.now c.loop-i-test.true c.loop-i.invariant c.deref.ensures.value c.if-not-daughters_are_later.ensures

pub loop-i-preserved : goal.loop-i-preserved
loop-i-preserved c =
    later_goes (get name_cmp c.args.heads.now) c.args.phrases.now c.loop-i.i c.index-phrases-i.result c.deref.result.now c.loop-i-test.true c.loop-i.invariant c.deref.ensures.value c.if-not-daughters_are_later.ensures
