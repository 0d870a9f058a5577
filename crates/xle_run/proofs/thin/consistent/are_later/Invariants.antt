use Rattle.std.proofs.Common.{◌≡◌, drop}
use Rattle.std.specs.BTreeMap.{get}
use Rattle.lfg_terms.specs.Order.{name_cmp}
use Rattle.xle_run.specs.Heads.{are_later}
use Rattle.xle_run.proofs.thin.consistent.are_later.Given as goal

abbrev pub invariant-loop-i : goal.invariant-loop-i
invariant-loop-i l = are_later (get name_cmp l.heads) l.i (drop l.i l.phrases) ≡ are_later (get name_cmp l.heads) 0 l.phrases
