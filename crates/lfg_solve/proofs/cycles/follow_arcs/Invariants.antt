use Rattle.std.proofs.Common.{◌≡◌, ◌<◌, ◌≤◌, IsTrue, List, false, length, take}
use Rattle.lfg_solve.specs.declared.solution.Membership.{Membership}
use Rattle.lfg_solve.specs.Descents.{AreUnder, PassesArcs}
use Rattle.lfg_solve.specs.Marks.{unmarked}
use Rattle.lfg_solve.proofs.cycles.follow_arcs.Given as goal

abbrev pub invariant-loop-arc : goal.invariant-loop-arc
invariant-loop-arc l = record {
  length : length l.marks ≡ length l.initial.marks;
  less : unmarked l.marks ≤ unmarked l.initial.marks;
  fewer : IsTrue l.stepped → unmarked l.marks < unmarked l.initial.marks;
  unchanged : l.stepped ≡ false → l.marks ≡ l.initial.marks;
  passes : l.stepped ≡ false → PassesArcs l.class l.initial.marks (take l.arc-index l.arcs);
  under : (members : List Membership) → AreUnder l.arcs members l.class l.initial.marks → AreUnder l.arcs members l.class l.marks;
}
