-- The form of the graph of a rule.
use Rattle.std.specs.Prelude.{◌≡◌, ℕ, ◌≤◌, List, length}
use Rattle.std.specs.Ordering.{nat_cmp}
use Rattle.std.specs.List.Sorted.{IsStrictlySortedBy}
use Rattle.lfg_terms.specs.declared.grammar.Graph.{Graph}
use Rattle.lfg_model.specs.Lists.{In}

-- numbers of items of a rule that has this number of items: they ascend without repeats, and each is
-- from 1 to that number
pub record AreItems (size : ℕ) (ps : List ℕ) : Type 0 where
  pub ascend : IsStrictlySortedBy nat_cmp ps
  pub within : (p : ℕ) → In p ps → (1 ≤ p) × (p ≤ size)

-- The graph has a list of followers and a mark for each item, and its lists are numbers of its
-- items.
pub record IsGraph (g : Graph) : Type 0 where
  pub next : length g.next ≡ g.size
  pub last : length g.last ≡ g.size
  pub begin : AreItems g.size g.first
  pub follow : (ps : List ℕ) → In ps g.next → AreItems g.size ps
