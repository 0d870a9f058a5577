use Rattle.std.proofs.Common.{◌≡◌, length}
use Rattle.lfg_rulegraph.specs.Followers.{AreEmpty}
use Rattle.lfg_rulegraph.proofs.graphs.empty_lists.Given as goal

abbrev pub invariant-loop-item : goal.invariant-loop-item
invariant-loop-item l = record {
  length : length l.lists.items ≡ l._item;
  empty : AreEmpty l.lists.items;
}
