-- The sets of the alternatives at the places of an annotation.
use Rattle.std.proofs.Common.{◌≡◌, ℕ, zero, suc, ◌+◌, ◌<◌, Some, List, [], ◌∷◌, ◌++◌, length, map, take, get_or, ◌≤◌, slice_get, sym, subst, ap, ◌∙◌, refl, arith, inl, inr, ◌⊎◌}
use Rattle.std.proofs.lemmas.Option.{same_Some}
use Rattle.lfg_terms.specs.declared.literal.Site.{Site}
use Rattle.lfg_terms.specs.declared.literal.Site.TheVariants as site
use Rattle.lfg_terms.specs.declared.grammar.Grammar.{Grammar}
use Rattle.lfg_terms.specs.declared.tree.TokenForms.{TokenForms}
use Rattle.std.proofs.lemmas.List.{take_more}
use Rattle.lfg_context.specs.Seen.{Set, Known}
use Rattle.lfg_context.specs.Sets.{Assignment, AreMade, IsGrown}
use Rattle.lfg_context.proofs.Growing.{are_made_grown}
use Rattle.lfg_model.proofs.ListLaws.{In-push_cases}
use Rattle.lfg_packed.specs.declared.key.ChoiceKey.{ChoiceKey}
use Rattle.lfg_packed.specs.Assignments.{picks_from}
use Rattle.lfg_packed.specs.ChoicePoints.{BranchAt, key_of}
use Rattle.lfg_instant.specs.Annotations.{IsPick, ArePicks, ArePicksMade}
use Rattle.lfg_instant.specs.Sites.{site_key}

-- the key of a place is that of its item or entry, with the place
pub placed_key : (g : Grammar) (s : List TokenForms) (at : Site) (key : ChoiceKey) (place : ℕ) → key ≡ site_key g s at
    → record { edge = key.edge; rank = key.rank; from = key.from; to = key.to; item = key.item; place = place } ≡ key_of g s (BranchAt at place)
placed_key g s (site.Item e occ at to) key place h = λ i. record { edge = (h i).edge; rank = (h i).rank; from = (h i).from; to = (h i).to; item = (h i).item; place = place }
placed_key g s (site.Entry e k) key place h = λ i. record { edge = (h i).edge; rank = (h i).rank; from = (h i).from; to = (h i).to; item = (h i).item; place = place }

-- picks at each place are picks at all
pub picks_all : (a : Assignment) (f : ℕ → ℕ) (k : ℕ) (sets : List (List Set)) (ns : List ℕ) → length sets ≡ length ns
    → ((j : ℕ) (xs : List Set) → slice_get sets j ≡ Some xs → IsPick xs a (f (k + j))) → ArePicks sets a (picks_from f k ns)
picks_all a f k [] [] l h = tt
picks_all a f k [] (n ∷ ns) l h = absurd (let no : 0 ≡ suc (length ns) = l in omega arith)
picks_all a f k (xs ∷ sets) [] l h = absurd (let no : suc (length sets) ≡ 0 = l in omega arith)
picks_all a f k (xs ∷ sets) (n ∷ ns) l h =
    let P : ℕ → Type 0 = λ z. IsPick xs a (f z) in
    let z : k + 0 ≡ k = omega arith in (
      subst P z (h 0 xs refl),
      picks_all a f (k + 1) sets ns (omega arith) (λ j ys e. (let Q : ℕ → Type 0 = λ w. IsPick ys a (f w) in
          let m : k + suc j ≡ k + 1 + j = omega arith in subst Q m (h (suc j) ys e))),
    )

-- one list more
get_push : {X : Type 0} (xs : List X) (x : X) (i : ℕ) (y : X) → slice_get (xs ++ x ∷ []) i ≡ Some y → (slice_get xs i ≡ Some y) ⊎ ((i ≡ length xs) × (y ≡ x))
get_push [] x zero y h = inr (refl, sym (same_Some x y h))
get_push [] x (suc i) y h = absurd (cc)
get_push (z ∷ xs) x zero y h = inl h
get_push (z ∷ xs) x (suc i) y h = elim (get_push xs x i y h) [ inl a ↦ inl a | inr b ↦ inr (ap suc b.0, b.1) ]

pub pushed_each : {X : Type 0} (P : ℕ → X → Type 0) (xs : List X) (x : X) (n : ℕ) → length xs ≡ n → ((i : ℕ) (y : X) → slice_get xs i ≡ Some y → P i y) → P n x
    → (i : ℕ) (y : X) → slice_get (xs ++ x ∷ []) i ≡ Some y → P i y
pushed_each {X} P xs x n l h new i y e = elim (get_push xs x i y e) [
  | inl old ↦ h i y old
  | inr last ↦ (let same : n ≡ i = sym l ∙ sym last.0 in let Q : ℕ → X → Type 0 = P in subst (λ (m : ℕ). P m y) same (subst (λ (w : X). P n w) (sym last.1) new))
]

pub picks_made_push : (k l : Known) (xs : List (List Set)) (ys : List Set) → IsGrown k l → ArePicksMade k xs → AreMade l (λ x. x) ys → ArePicksMade l (xs ++ ys ∷ [])
picks_made_push k l xs ys g m one = record {
  each = λ zs i. elim (In-push_cases xs ys i) [
    | inl old ↦ are_made_grown g (m.each zs old)
    | inr same ↦ (let P : List Set → Type 0 = λ w. AreMade l (λ x. x) w in subst P (sym same) one)
  ];
}

-- the lengths of the lists so far, and of one more
pub lengths_more : (sets : List (List Set)) (ns : List ℕ) (xs : List Set) (k : ℕ) → k < length ns → map length sets ≡ take k ns → length xs ≡ get_or ns k 0 → map length (sets ++ xs ∷ []) ≡ take (k + 1) ns
lengths_more sets ns xs k l h e =
    map_push sets xs ∙ (λ i. h i ++ e i ∷ []) ∙ sym (take_more ns k 0 l)
  where
    map_push : (us : List (List Set)) (v : List Set) → map length (us ++ v ∷ []) ≡ map length us ++ length v ∷ []
    map_push [] v = refl
    map_push (u ∷ us) v = ap (λ zs. length u ∷ zs) (map_push us v)

-- how many lists there are so far
pub how_many : (sets : List (List Set)) (ns : List ℕ) (k : ℕ) → k ≤ length ns → map length sets ≡ take k ns → length sets ≡ k
how_many sets ns k l h = sym (length_map sets) ∙ ap (λ (zs : List ℕ). length zs) h ∙ length_take ns k l
  where
    length_map : (us : List (List Set)) → length (map (λ (u : List Set). length u) us) ≡ length us
    length_map [] = refl
    length_map (u ∷ us) = ap suc (length_map us)

    length_take : (ms : List ℕ) (j : ℕ) → j ≤ length ms → length (take j ms) ≡ j
    length_take ms zero w = refl
    length_take [] (suc j) w = absurd (omega arith)
    length_take (m ∷ ms) (suc j) w = ap suc (length_take ms j (omega arith))
