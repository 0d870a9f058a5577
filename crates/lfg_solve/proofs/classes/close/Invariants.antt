use Rattle.std.proofs.Common.{◌≡◌, length}
use Rattle.lfg_solve.specs.Links.{total}
use Rattle.lfg_solve.specs.Divides.{IsDivision, HoldsGiven}
use Rattle.lfg_solve.proofs.classes.close.Given as goal

abbrev pub invariant-loop-classes : goal.invariant-loop-classes
invariant-loop-classes l = record {
  length : length l.classes ≡ l.count;
  division : IsDivision l.count l.given l.arcs l.classes;
  given : HoldsGiven l.given l.classes;
}

abbrev pub decreases-loop-classes : goal.decreases-loop-classes
decreases-loop-classes l = total l.classes
