use Rattle.std.proofs.Common.{◌≡◌, ℕ, ◌<◌, ◌≤◌, IsTrue, false, List, length, take}
use Rattle.lfg_solve.specs.Links.{total}
use Rattle.lfg_solve.specs.Divides.{Grows, IsDivision, Meets}
use Rattle.lfg_solve.proofs.classes.join_target.Given as goal

-- no label is lost, and the sum of the labels falls once two classes were joined
abbrev pub invariant-loop-other : goal.invariant-loop-other
invariant-loop-other l = record {
  length : length l.classes ≡ length l.initial.classes;
  less : total l.classes ≤ total l.initial.classes;
  fewer : IsTrue l.joined → total l.classes < total l.initial.classes;
  grown : Grows l.initial.classes l.classes;
  forced : (count : ℕ) (given : List (ℕ × ℕ)) → IsDivision count given l.arcs l.initial.classes → IsDivision count given l.arcs l.classes;
  unchanged : l.joined ≡ false → l.classes ≡ l.initial.classes;
  met : l.joined ≡ false → Meets l.initial.classes l.arc (take l.other-index l.arcs);
}
