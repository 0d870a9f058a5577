use Rattle.std.proofs.Common.{◌≡◌, ◌+◌, ◌*◌, length}
use Rattle.xle_run.specs.Search.{list_parts}
use Rattle.xle_run.proofs.SearchSteps.{Reaches}
use Rattle.xle_run.proofs.search.+search.Given as goal

abbrev pub decreases-cover : goal.decreases-cover
decreases-cover l = 2 * length l.rules.now + 2

abbrev pub decreases-derive : goal.decreases-derive
decreases-derive l = 2 * length l.rules.now + 1

abbrev pub invariant-cover-loop-item : goal.invariant-cover-loop-item
invariant-cover-loop-item l = record {
  counted : length l.parts.items ≡ l.item-index;
  reaches : Reaches l.grammar l.tokens l.rule l.at (list_parts l.parts.items) l.item-index l.end;
}
