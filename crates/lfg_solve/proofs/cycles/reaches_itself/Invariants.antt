use Rattle.std.proofs.Common.{◌≡◌, length}
use Rattle.lfg_solve.specs.Descents.{AreUnder}
use Rattle.lfg_solve.specs.Marks.{unmarked}
use Rattle.lfg_solve.proofs.cycles.reaches_itself.Given as goal

abbrev pub invariant-loop : goal.invariant-loop
invariant-loop l = record {
  length : length l.marks.items ≡ l.count;
  under : AreUnder l.arcs l.members l.class l.marks.items;
}

abbrev pub decreases-loop : goal.decreases-loop
decreases-loop l = unmarked l.marks.items
