use Rattle.std.proofs.Common.{◌≡◌, take}
use Rattle.lfg_instant.specs.Holding.{beside}
use Rattle.lfg_instant.proofs.instances.facts_beside.Given as goal

abbrev pub invariant-loop-place : goal.invariant-loop-place
invariant-loop-place l = record {
  are : l.pairs.items ≡ beside (take l.place l.facts) (take l.place l.sets);
}
