-- The sets of entries while contexts grow and entries change. Crates above name these lemmas in
-- `using(lfg_store::proofs::Growing::storing)`.
use Rattle.std.proofs.Common.{◌≡◌, ℕ, zero, suc, List, [], ◌∷◌, ◌++◌, take, drop, length, get_or, sym, subst, inl, inr, ◌⊎◌, ◌<◌, Bool, true, false, cond, Option, Some}
use Rattle.std.proofs.lemmas.Option.{same_Some}
use Rattle.std.specs.Prelude.{insert, remove}
use Rattle.lfg_terms.specs.declared.node.Fact.{Fact}
use Rattle.lfg_model.specs.Lists.{In, here, later}
use Rattle.lfg_model.proofs.ListLaws.{In-cons_cases, In-append_cases, In-take}
use Rattle.lfg_context.specs.Seen.{Set, Known}
use Rattle.lfg_context.specs.Sets.{IsMade, IsGrown, AreMade}
use Rattle.lfg_context.proofs.Growing.{are_made_grown}
use Rattle.lfg_store.specs.Facts.{Entries, context_of, same_fact}
use Rattle.lfg_store.specs.Packing.{AreMadeBy}

In-drop : {X : Type 0} {x : X} (n : ℕ) (xs : List X) → In x (drop n xs) → In x xs
In-drop zero xs h = h
In-drop (suc n) [] h = h
In-drop (suc n) (y ∷ xs) h = later (In-drop n xs h)

pub entries_insert : {k : Known} {es : Entries} (place : ℕ) (e : Fact × Set) → AreMadeBy k es → IsMade k e.1 → AreMadeBy k (insert es place e)
entries_insert {k} {es} place e m one = record { each = λ d i. by_case d (In-append_cases (take place es) (e ∷ drop place es) i) }
  where
    by_last : (d : Fact × Set) → (d ≡ e) ⊎ In d (drop place es) → IsMade k d.1
    by_last d (inl same) = let P : Fact × Set → Type 0 = λ v. IsMade k v.1 in subst P (sym same) one
    by_last d (inr i) = m.each d (In-drop place es i)

    by_case : (d : Fact × Set) → In d (take place es) ⊎ In d (e ∷ drop place es) → IsMade k d.1
    by_case d (inl i) = m.each d (In-take place es i)
    by_case d (inr i) = by_last d (In-cons_cases i)

pub entries_remove : {k : Known} {es : Entries} (place : ℕ) → AreMadeBy k es → AreMadeBy k (remove es place)
entries_remove {k} {es} place m = record { each = λ d i. by_case d (In-append_cases (take place es) (drop (suc place) es) i) }
  where
    by_case : (d : Fact × Set) → In d (take place es) ⊎ In d (drop (suc place) es) → IsMade k d.1
    by_case d (inl i) = m.each d (In-take place es i)
    by_case d (inr i) = m.each d (In-drop (suc place) es i)

-- what a look-up finds stands in an entry
context_in : (es : Entries) (f : Fact) (x : Set) → context_of es f ≡ Some x → (e : Fact × Set) × In e es × (e.1 ≡ x)
context_in [] f x h = absurd (cc)
context_in (d ∷ es) f x h = by_test (same_fact d.0 f) (context_in es f x) h
  where
    by_test : (b : Bool) → (context_of es f ≡ Some x → (e : Fact × Set) × In e es × (e.1 ≡ x)) → cond b (Some d.1) (context_of es f) ≡ Some x
        → (e : Fact × Set) × In e (d ∷ es) × (e.1 ≡ x)
    by_test true ih e = (d, here, same_Some d.1 x e)
    by_test false ih e = let s = ih e in (s.0, later s.1, s.2)

pub got_made : {k : Known} {es : Entries} {x : Set} (f : Fact) → AreMadeBy k es → Some x ≡ context_of es f → IsMade k x
got_made {k} {es} {x} f m h = let s = context_in es f x (sym h) in let P : Set → Type 0 = λ v. IsMade k v in subst P s.2 (m.each s.0 s.1)

pub ruleset storing = (entries_insert, entries_remove, got_made)
