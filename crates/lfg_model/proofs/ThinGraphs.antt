-- The graph of a row of items walks the row alone, as the right side spells it alone.
use Rattle.std.proofs.Common.{◌≡◌, ℕ, zero, suc, ◌+◌, ◌≤◌, ◌↔◌, Some, List, [], ◌∷◌, ◌++◌, length, refl, sym, ap, ◌∙◌, subst, arith, inl, inr}
use Rattle.std.specs.List.Sorted.{IsStrictlySortedBy}
use Rattle.lfg_terms.specs.declared.grammar.Graph.{Graph}
use Rattle.lfg_model.specs.Derive.{Walks}
use Rattle.lfg_model.specs.Graphs.{AreItems, IsGraph}
use Rattle.lfg_model.specs.Lists.{In, here, later}
use Rattle.lfg_model.specs.Loads.{items_of, all_items_of, HasGraph}
use Rattle.lfg_model.specs.RightSideNotation.{side_row}
use Rattle.lfg_model.specs.RightSides.{RightSide, right_sides_from}
use Rattle.lfg_model.specs.Spelling.{categories, categories_of, item_count, category_at, SpellsBehind, SpellsRow, Spells, AllowsEmpty, SomeHasEmptyStar}
use Rattle.lfg_model.specs.Terms.{Name}
use Rattle.lfg_model.specs.Thin.{Daughter, empty_item, next_from, last_of, row_graph}
use Rattle.lfg_model.specs.ThinDrafts.{IsItem, unannotated, linked, AreItems as AreSides, none, next}
use Rattle.lfg_model.specs.ThinTrees.{numbers}
use Rattle.lfg_model.proofs.OneTree.{same_some}
use Rattle.lfg_model.proofs.ThinTreeLaws.{numbers_walk, walk_numbers}

-- ---- the form of the graph

one_item : (size p : ℕ) → 1 ≤ p → p ≤ size → AreItems size (p ∷ [])
unfolding IsStrictlySortedBy
one_item size p l m = record { ascend = (tt, tt); within = λ q i. within q i }
  where
    within : (q : ℕ) → In q (p ∷ []) → (1 ≤ q) × (q ≤ size)
    within q here = (l, m)
    within q (later i) = elim i [ ]

no_item : (size : ℕ) → AreItems size []
unfolding IsStrictlySortedBy
no_item size = record { ascend = tt; within = λ q i. elim i [ ] }

next_count : (k n : ℕ) → length (next_from k n) ≡ n
next_count k zero = refl
next_count k (suc zero) = refl
next_count k (suc (suc n)) = ap suc (next_count (suc k) (suc n))

last_count : (n : ℕ) → length (last_of n) ≡ n
last_count zero = refl
last_count (suc zero) = refl
last_count (suc (suc n)) = ap suc (last_count (suc n))

-- the lists behind the k-th item, n of them
next_items : (size k n : ℕ) (ps : List ℕ) → k + n ≤ suc size → In ps (next_from k n) → AreItems size ps
next_items size k zero ps l i = elim i [ ]
next_items size k (suc zero) ps l here = no_item size
next_items size k (suc zero) ps l (later i) = elim i [ ]
next_items size k (suc (suc n)) ps l here = one_item size (suc k) (omega arith) (omega arith)
next_items size k (suc (suc n)) ps l (later i) = next_items size (suc k) (suc n) ps (omega arith) i

row_form : (n : ℕ) → 1 ≤ n → IsGraph (row_graph n)
unfolding row_graph
row_form n l = record { next = next_count 1 n; last = last_count n; begin = one_item n 1 (omega arith) l; follow = λ ps i. next_items n 1 n ps (omega arith) i }

row_size : (n : ℕ) → (let g : Graph = row_graph n in g.size) ≡ n
unfolding row_graph
row_size n = refl

-- ---- what the right side spells

item_numbers : {x : Daughter} {s : RightSide} (before : ℕ) (w : List ℕ) → IsItem x s → SpellsBehind before s w ↔ (w ≡ suc before ∷ [])
item_numbers before w (unannotated e) = let h : before + 1 ≡ suc before = omega arith in ((λ p. p ∙ ap (λ (k : ℕ). k ∷ []) h), (λ p. p ∙ ap (λ (k : ℕ). k ∷ []) (sym h)))
item_numbers before w linked = let h : before + 1 ≡ suc before = omega arith in ((λ p. p ∙ ap (λ (k : ℕ). k ∷ []) h), (λ p. p ∙ ap (λ (k : ℕ). k ∷ []) (sym h)))

item_is_one : {x : Daughter} {s : RightSide} → IsItem x s → item_count s ≡ 1
item_is_one (unannotated e) = refl
item_is_one linked = refl

-- the items of a row spell their numbers, from that behind those before them
spelled : {xs : List Daughter} {ss : List RightSide} (before : ℕ) (w : List ℕ) → AreSides xs ss → SpellsRow before (right_sides_from ss) w → w ≡ numbers (suc before) (length xs)
spelled before w none e = e
spelled before w (next {x} {side} {xs} {sides} i r) j =
    let front = (item_numbers before j.front i).0 j.first in
    let up : before + item_count side ≡ suc before = ap (λ (k : ℕ). before + k) (item_is_one i) ∙ omega arith in
    let back = spelled (suc before) j.back r (subst (λ (k : ℕ). SpellsRow k (right_sides_from sides) j.back) up j.second) in
    j.is ∙ (λ t. front t ++ back t)

spells : {xs : List Daughter} {ss : List RightSide} (before : ℕ) → AreSides xs ss → SpellsRow before (right_sides_from ss) (numbers (suc before) (length xs))
spells before none = refl
spells before (next {x} {side} {xs} {sides} i r) =
    let up : before + item_count side ≡ suc before = ap (λ (k : ℕ). before + k) (item_is_one i) ∙ omega arith in
    record {
      front = suc before ∷ [];
      back = numbers (suc (suc before)) (length xs);
      is = refl;
      first = (item_numbers before (suc before ∷ []) i).1 refl;
      second = subst (λ (k : ℕ). SpellsRow k (right_sides_from sides) (numbers (suc (suc before)) (length xs))) (sym up) (spells (suc before) r);
    }

-- ---- no row without a category

no_star : {xs : List Daughter} {ss : List RightSide} → AreSides xs ss → SomeHasEmptyStar (right_sides_from ss) → ⊥
no_star none h = h
no_star (next (unannotated e) r) (inl h) = h
no_star (next linked r) (inl h) = h
no_star (next i r) (inr h) = no_star r h

first_category : {x : Daughter} {s : RightSide} (rest : List Name) → IsItem x s → category_at (categories s ++ rest) 1 ≡ Some x.cat
first_category rest (unannotated e) = refl
first_category rest linked = refl

not_empty : {x : Daughter} {s : RightSide} {xs : List Daughter} {ss : List RightSide} → IsItem x s → AreSides xs ss → ¬ (x.cat ≡ empty_item) → ¬ AllowsEmpty (side_row (s ∷ ss))
not_empty {x} {s} {xs} {ss} i r n a =
    let w = spelled 0 a.items (next i r) a.spelled in
    let first : In 1 a.items = subst (λ (v : List ℕ). In 1 v) (sym w) here in
    n (same_some x.cat empty_item (sym (first_category (categories_of (right_sides_from ss)) i) ∙ a.each 1 first))

item_length : {x : Daughter} {s : RightSide} → IsItem x s → length (items_of s) ≡ 1
item_length (unannotated e) = refl
item_length linked = refl

items_length : {xs : List Daughter} {ss : List RightSide} → AreSides xs ss → length (all_items_of (right_sides_from ss)) ≡ length xs
items_length none = refl
items_length (next (unannotated e) r) = ap suc (items_length r)
items_length (next linked r) = ap suc (items_length r)

-- the right side of a thin rule has the graph of a row
pub row_has_graph : (x : Daughter) (xs : List Daughter) (ss : List RightSide) → AreSides (x ∷ xs) ss → ¬ (x.cat ≡ empty_item) → HasGraph (side_row ss) (row_graph (length (x ∷ xs)))
row_has_graph x xs [] r n = elim r [ ]
row_has_graph x xs (s ∷ ss) (next i r) n = record {
  repeats = no_star (next i r);
  filled = not_empty i r n;
  form = row_form (suc (length xs)) (omega arith);
  size = row_size (suc (length xs)) ∙ sym (items_length (next i r));
  walks = λ w. (
    (λ h. subst (λ (v : List ℕ). Spells (side_row (s ∷ ss)) v) (sym (walk_numbers (suc (length xs)) w (omega arith) h)) (spells 0 (next i r))),
    (λ h. subst (λ (v : List ℕ). Walks (row_graph (suc (length xs))) v) (sym (spelled 0 w (next i r) h)) (numbers_walk (suc (length xs)) (omega arith))),
  );
}
