use Rattle.std.proofs.Common.{◌≡◌, ◌<◌, ◌≤◌, IsTrue, List, false, length, take}
use Rattle.lfg_solve.specs.declared.classes.Arc.{Arc}
use Rattle.lfg_solve.specs.Descents.{AreUnder, PassesMembers}
use Rattle.lfg_solve.specs.Marks.{unmarked}
use Rattle.lfg_solve.proofs.cycles.enter_sets.Given as goal

abbrev pub invariant-loop-member : goal.invariant-loop-member
invariant-loop-member l = record {
  length : length l.marks ≡ length l.initial.marks;
  less : unmarked l.marks ≤ unmarked l.initial.marks;
  fewer : IsTrue l.stepped → unmarked l.marks < unmarked l.initial.marks;
  unchanged : l.stepped ≡ false → l.marks ≡ l.initial.marks;
  passes : l.stepped ≡ false → PassesMembers l.class l.initial.marks (take l.member-index l.members);
  under : (arcs : List Arc) → AreUnder arcs l.members l.class l.initial.marks → AreUnder arcs l.members l.class l.marks;
}
