use Rattle.std.proofs.Common.{◌≡◌, length, take}
use Rattle.lfg_rulegraph.specs.Followers.{FollowersOf}
use Rattle.lfg_rulegraph.proofs.graphs.followers.Given as goal

abbrev pub invariant-loop-link : goal.invariant-loop-link
invariant-loop-link l = record {
  length : length l.lists.items ≡ l.size;
  exact : FollowersOf (take l.link-index l.links) l.lists.items;
}
