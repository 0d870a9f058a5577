-- Pairs in the order of their texts.
use Rattle.std.proofs.Common.{◌≡◌, List, [], refl, sym, ◌∙◌, inl, inr, Ordering, Less, Equal, Greater}
use Rattle.std.specs.Prelude.{◌↔◌}
use Rattle.std.specs.Ordering.{nat_cmp, ordering_then}
use Rattle.std.specs.Cmp.Lexicographic.{slice_cmp}
use Rattle.lfg_terms.specs.Order.{fact_cmp}
use Rattle.lfg_terms.proofs.Ties.{slice_ties, fact_ties}
use Rattle.lfg_model.specs.declared.pair.Pair.{Pair}
use Rattle.lfg_model.specs.Lists.{In, Lists}
use Rattle.lfg_model.specs.PairTexts.{pair_text, pair_cmp}

then_equal : (o p : Ordering) → ordering_then o p ≡ Equal → (o ≡ Equal) × (p ≡ Equal)
then_equal Less p e = absurd (cc)
then_equal Equal p e = (refl, e)
then_equal Greater p e = absurd (cc)

pub pair_ties : (p q : Pair) → pair_cmp p q ≡ Equal → p ≡ q
pair_ties p q e =
    let parts = then_equal (slice_cmp nat_cmp (pair_text p) (pair_text q)) (ordering_then (slice_cmp fact_cmp p.tree q.tree) (slice_cmp fact_cmp p.facts q.facts)) e in
    let both = then_equal (slice_cmp fact_cmp p.tree q.tree) (slice_cmp fact_cmp p.facts q.facts) parts.1 in
    let trees : p.tree ≡ q.tree = slice_ties fact_cmp fact_ties p.tree q.tree both.0 in
    let facts : p.facts ≡ q.facts = slice_ties fact_cmp fact_ties p.facts q.facts both.1 in
    λ i. record { tree = trees i; facts = facts i }

-- the same list, said otherwise
pub lists_alike : {X : Type 0} {cmp : X → X → Ordering} {P : X → Type 0} (Q : X → Type 0) {xs : List X} → ((x : X) → P x → Q x) → ((x : X) → Q x → P x) → Lists cmp P xs → Lists cmp Q xs
lists_alike {X} {cmp} {P} Q {xs} f g l = record { ascends = l.ascends; exact = λ x. ((λ i. f x ((l.exact x).0 i)), λ q. (l.exact x).1 (g x q)) }
