-- The readings of a sentence that has at most one derivation.
use Rattle.std.proofs.Common.{◌≡◌, List, [], ◌∷◌, sym, subst, inl, inr}
use Rattle.std.specs.List.Sorted.{IsStrictlySortedBy}
use Rattle.lfg_terms.specs.Order.{fact_cmp}
use Rattle.lfg_terms.specs.OrderLaws.{fact_cmp_total}
use Rattle.lfg_terms.specs.declared.grammar.Grammar.{Grammar}
use Rattle.lfg_terms.specs.declared.tree.TokenForms.{TokenForms}
use Rattle.lfg_model.specs.declared.pair.Pair.{Pair}
use Rattle.lfg_model.specs.Lists.{In, here}
use Rattle.lfg_model.specs.Terms.{Tree}
use Rattle.lfg_model.specs.Derive.{Whole}
use Rattle.lfg_model.specs.Trees.{tree_facts}
use Rattle.lfg_model.specs.Readings.{Assigned, IsFact, IsPairOf, IsReading, IsReadings, solution_of}
use Rattle.lfg_model.proofs.Ascending.{one_list, once_from_total}
use Rattle.lfg_model.proofs.ListLaws.{In-nil, In-cons_cases}

-- a derivation has one pair
pub one_pair : (g : Grammar) (s : List TokenForms) (d : Tree) (p q : Pair) → IsPairOf g s d p → IsPairOf g s d q → p ≡ q
one_pair g s d p q a b =
    let tree : p.tree ≡ q.tree = one_list fact_cmp (once_from_total fact_cmp_total) (λ f. In f (tree_facts s d 0)) p.tree q.tree a.tree b.tree in
    let facts : p.facts ≡ q.facts = one_list fact_cmp (once_from_total fact_cmp_total) (IsFact (solution_of g d)) p.facts q.facts a.facts b.facts in
    λ i. record { tree = tree i; facts = facts i }

-- without an assigned derivation there is no reading
pub no_readings : (g : Grammar) (s : List TokenForms) → ((d : Tree) → ¬ Assigned g s d) → IsReadings g s []
unfolding IsStrictlySortedBy
no_readings g s none = record { ascends = tt; exact = λ p. (λ i. In-nil i, λ r. absurd (none r.derivation r.assigned)) }

-- with one assigned derivation, which is the only one, its pair is the only reading
pub one_reading : (g : Grammar) (s : List TokenForms) (d : Tree) (p : Pair) → ((e : Tree) → Whole g s e → e ≡ d) → Assigned g s d → IsPairOf g s d p → IsReadings g s (p ∷ [])
unfolding IsStrictlySortedBy
one_reading g s d p only assigned pair = record { ascends = (tt, tt); exact = λ q. (λ i. given q i, λ r. found q r) }
  where
    given : (q : Pair) → In q (p ∷ []) → IsReading g s q
    given q i = elim (In-cons_cases i) [
      | inl e ↦ record { derivation = d; assigned = assigned; pair = subst (IsPairOf g s d) (sym e) pair }
      | inr rest ↦ In-nil rest
    ]

    found : (q : Pair) → IsReading g s q → In q (p ∷ [])
    found q r =
        let same : r.derivation ≡ d = only r.derivation r.assigned.whole in
        let e : q ≡ p = one_pair g s d q p (subst (λ t. IsPairOf g s t q) same r.pair) pair in
        subst (λ x. In x (p ∷ [])) (sym e) here
