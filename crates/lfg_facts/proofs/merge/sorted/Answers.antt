use Rattle.std.proofs.Common.{rules}
use Rattle.lfg_facts.proofs.MergeLaws.{sorted_from}
use Rattle.lfg_facts.proofs.merge.sorted.Goals as goal

pub returns-clause-sorted : goal.returns-clause-sorted
returns-clause-sorted c = sorted_from _ c.in_ok-sort_by.ensures.sorted (λ a r q k. search rules)
