-- Lists as they are used in all definitions: what stands in a list, lists that grow, and sets,
-- which are lists in ascending order without repeats.
use Rattle.std.specs.Prelude.{◌≡◌, ◌↔◌, List, [], ◌∷◌, ◌++◌}
use Rattle.std.specs.declared.cmp.Ordering.{Ordering}
use Rattle.std.specs.List.Sorted.{IsStrictlySortedBy}
use Rattle.lfg_terms.specs.Order.{fact_cmp}
use Rattle.lfg_terms.specs.declared.node.Fact.{Fact}

-- x stands in the list
pub data In {X : Type 0} (x : X) : List X → Type 0 where
  here : {xs : List X} → In x (x ∷ xs)
  later : {y : X} {xs : List X} → In x xs → In x (y ∷ xs)

-- nothing stands in the list twice
pub data Once {X : Type 0} : List X → Type 0 where
  none : Once []
  more : {x : X} {xs : List X} → (In x xs → ⊥) → Once xs → Once (x ∷ xs)

-- new has what old has, and maybe more behind it
pub record Extends {X : Type 0} (old new : List X) : Type 0 where
  pub added : List X
  pub is : new ≡ old ++ added

-- The list is the set of all x with P: each stands in it once, in ascending order, and nothing
-- else does.
pub record Lists {X : Type 0} (cmp : X → X → Ordering) (P : X → Type 0) (xs : List X) : Type 0 where
  pub ascends : IsStrictlySortedBy cmp xs
  pub exact : (x : X) → In x xs ↔ P x

-- Law: a set of facts is one list. Two lists of facts that ascend and have the same facts are
-- equal.
abbrev pub SetsOfFactsAreOne : Type 0
SetsOfFactsAreOne =
    (fs gs : List Fact) → IsStrictlySortedBy fact_cmp fs → IsStrictlySortedBy fact_cmp gs
    → ((f : Fact) → In f fs ↔ In f gs) → fs ≡ gs
