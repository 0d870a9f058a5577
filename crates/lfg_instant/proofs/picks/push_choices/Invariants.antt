use Rattle.std.proofs.Common.{◌≡◌, ◌++◌, length, map, drop}
use Rattle.lfg_packed.specs.Choices.{choice_of}
use Rattle.lfg_instant.specs.Junctions.{placed}
use Rattle.lfg_instant.proofs.picks.push_choices.Given as goal

abbrev pub invariant-loop-junction : goal.invariant-loop-junction
invariant-loop-junction l = record {
  is : l.space ++ map choice_of (map placed (drop l.junction-index l.junctions)) ≡ map choice_of (map placed l.junctions);
  len : length l.space ≡ l.junction-index;
}
