use Rattle.std.proofs.Common.{◌≡◌, length}
use Rattle.lfg_rulegraph.specs.Followers.{AreEmpty}
use Rattle.lfg_grammar.proofs.reach.empty_lists.Given as goal

abbrev pub invariant-loop-place : goal.invariant-loop-place
invariant-loop-place l = record {
  length : length l.lists.items ≡ l._place;
  empty : AreEmpty l.lists.items;
}
