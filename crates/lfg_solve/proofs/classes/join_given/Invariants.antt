use Rattle.std.proofs.Common.{◌≡◌, ℕ, List, length, take}
use Rattle.lfg_solve.specs.declared.classes.Arc.{Arc}
use Rattle.lfg_solve.specs.Divides.{IsDivision, HoldsGiven}
use Rattle.lfg_solve.proofs.classes.join_given.Given as goal

abbrev pub invariant-loop-a : goal.invariant-loop-a
invariant-loop-a l = record {
  length : length l.classes ≡ length l.initial.classes;
  forced : (count : ℕ) (arcs : List Arc) → IsDivision count l.given arcs l.initial.classes → IsDivision count l.given arcs l.classes;
  given : HoldsGiven (take l.a-index l.given) l.classes;
}
