use Rattle.std.proofs.Common.{◌≡◌, length, take}
use Rattle.lfg_grammar.specs.Reach.{IsTableOf}
use Rattle.lfg_grammar.proofs.reach.table_of.Given as goal

abbrev pub invariant-loop-link : goal.invariant-loop-link
invariant-loop-link l = record {
  length : length l.next.items ≡ l.size;
  table : IsTableOf (take l.link-index l.links) l.next.items;
}
