use Rattle.std.proofs.Common.{◌≡◌, List, ℕ, map, take}
use Rattle.std.specs.BTreeMap.{get}
use Rattle.lfg_terms.specs.Order.{name_cmp}
use Rattle.xle_run.specs.Heads.{HaveOwnRules, place_of}
use Rattle.xle_run.proofs.thin.consistent.heads_of.Given as goal

abbrev pub invariant-loop-i : goal.invariant-loop-i
invariant-loop-i l = record {
  own : HaveOwnRules (take l.i (map (λ p. p.cat) l.phrases));
  places : (cat : List ℕ) → get name_cmp l.heads cat ≡ place_of cat (take l.i (map (λ p. p.cat) l.phrases));
}
