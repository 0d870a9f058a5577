use Rattle.std.proofs.Common.{take}
use Rattle.lfg_store.specs.Packing.{AreMadeBy}
use Rattle.lfg_unpack.specs.Pieces.{AllMade, Gathers}
use Rattle.lfg_unpack.proofs.gathering.add_contexts.Given as goal

abbrev pub invariant-loop-entry : goal.invariant-loop-entry
invariant-loop-entry l = record {
  sets_made : AllMade l.contexts l.sets.items;
  gathers : Gathers (take l.entry-index l.entries) l.fn.sets.items l.sets.items;
}
