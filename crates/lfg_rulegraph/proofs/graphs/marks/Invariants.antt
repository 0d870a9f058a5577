use Rattle.std.proofs.Common.{◌≡◌, ◌+◌, ℕ, true, Some, length, take}
use Rattle.std.specs.Prelude.{◌↔◌, slice_get}
use Rattle.lfg_model.specs.Lists.{In}
use Rattle.lfg_rulegraph.proofs.graphs.marks.Given as goal

abbrev pub invariant-loop-item : goal.invariant-loop-item
invariant-loop-item l = record {
  length : length l.marks.items ≡ l.size;
  exact : (k : ℕ) → (slice_get l.marks.items k ≡ Some true) ↔ In (k + 1) (take l.item-index l.items);
}
