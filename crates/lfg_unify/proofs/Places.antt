-- The places of nodes in a list that ascends.
use Rattle.std.proofs.Common.{◌≡◌, ℕ, zero, suc, ◌+◌, ◌<◌, ◌≤◌, Bool, true, false, List, [], ◌∷◌, length, drop, Option, Some, None, Result, Ok, Err, refl, sym, ap, subst, ◌∙◌, arith, inl, inr, ◌⊎◌}
use Rattle.std.specs.Prelude.{slice_get, slice_index_or, ◌==◌, if◌then◌else◌, IfSome, IfNone}
use Rattle.std.specs.Result.{result_ok}
use Rattle.std.specs.List.Sorted.{IsSearchInRange, IsBinarySearchResult, IsStrictlySortedBy}
use Rattle.std.specs.Ordering.{eq_by_cmp}
use Rattle.std.proofs.lemmas.Bool.{cases_Bool, false≢true}
use Rattle.std.proofs.lemmas.Option.{same_Some, slice_get_within}
use Rattle.lfg_terms.specs.Order.{node_cmp}
use Rattle.lfg_terms.specs.OrderLaws.{node_cmp_total}
use Rattle.lfg_terms.proofs.Ties.{node_ties}
use Rattle.lfg_terms.specs.declared.node.Node.{Node}
use Rattle.lfg_model.specs.Lists.{In, here, later}
use Rattle.lfg_model.proofs.ListLaws.{In-cons_cases}
use Rattle.lfg_model.proofs.RoundLaws.{node_tells}
use Rattle.lfg_context.specs.Seen.{Set}
use Rattle.lfg_unify.specs.Closures.{Row, Ascends, place_in, context_in}
use Rattle.lfg_unify.proofs.Tables.{In_get, get_In, one_place, place_found, place_missing}

if_true : {X : Type 0} (b : Bool) (x y : X) → b ≡ true → (if b then x else y) ≡ x
if_true true x y e = refl
if_true false x y e = let no : false ≡ true = e in absurd (cc)

if_false : {X : Type 0} (b : Bool) (x y : X) → b ≡ false → (if b then x else y) ≡ y
if_false false x y e = refl
if_false true x y e = let no : true ≡ false = e in absurd (cc)

-- the first place at which a node stands
place_first : (ns : List Node) (x : Node) (p : ℕ) → slice_get ns p ≡ Some x → ((q : ℕ) → q < p → slice_get ns q ≡ Some x → ⊥) → place_in ns x ≡ p
place_first [] x p h first = cc
place_first (n ∷ ns) x zero h first = if_true (eq_by_cmp node_cmp n x) 0 (suc (place_in ns x)) (told (same_Some n x h))
  where
    told : n ≡ x → eq_by_cmp node_cmp n x ≡ true
    told e = let P : Node → Type 0 = λ y. eq_by_cmp node_cmp y x ≡ true in subst P (sym e) (node_tells.itself x)
place_first (n ∷ ns) x (suc p) h first = elim (cases_Bool (eq_by_cmp node_cmp n x)) [
  | inl t ↦ absurd (first 0 (omega arith) (ap (λ y. Some y) (node_tells.told n x t)))
  | inr f ↦ if_false (eq_by_cmp node_cmp n x) 0 (suc (place_in ns x)) f ∙ ap suc (place_first ns x p h (λ q l g. first (suc q) (omega arith) g))
]

-- the place of a node that is there
pub place_is : (ns : List Node) (x : Node) (p : ℕ) → IsStrictlySortedBy node_cmp ns → slice_get ns p ≡ Some x → place_in ns x ≡ p
place_is ns x p s h = place_first ns x p h (λ q l g. let e = one_place node_cmp node_cmp_total ns q p x s g h in omega (arith, e))

pub place_absent : (ns : List Node) (x : Node) → ¬ In x ns → place_in ns x ≡ length ns
place_absent [] x n = refl
place_absent (m ∷ ns) x n = elim (cases_Bool (eq_by_cmp node_cmp m x)) [
  | inl t ↦ absurd (n (let P : Node → Type 0 = λ y. In y (m ∷ ns) in subst P (node_tells.told m x t) here))
  | inr f ↦ if_false (eq_by_cmp node_cmp m x) 0 (suc (place_in ns x)) f ∙ ap suc (place_absent ns x (λ i. n (later i)))
]

pub place_le : (ns : List Node) (x : Node) → place_in ns x ≤ length ns
place_le [] x = omega arith
place_le (m ∷ ns) x = elim (cases_Bool (eq_by_cmp node_cmp m x)) [
  | inl t ↦ rw (if_true (eq_by_cmp node_cmp m x) 0 (suc (place_in ns x)) t) (omega arith)
  | inr f ↦ let h = place_le ns x in rw (if_false (eq_by_cmp node_cmp m x) 0 (suc (place_in ns x)) f) (omega arith)
]

-- a place below the length is that of the node
pub place_get : (ns : List Node) (x : Node) → place_in ns x < length ns → slice_get ns (place_in ns x) ≡ Some x
place_get [] x h = absurd (omega arith)
place_get (m ∷ ns) x h = elim (cases_Bool (eq_by_cmp node_cmp m x)) [
  | inl t ↦ rw (if_true (eq_by_cmp node_cmp m x) 0 (suc (place_in ns x)) t) (ap (λ y. Some y) (node_tells.told m x t))
  | inr f ↦
      let e = if_false (eq_by_cmp node_cmp m x) 0 (suc (place_in ns x)) f in
      let l : place_in ns x < length ns = omega (arith, e, h) in
      rw e (place_get ns x l)
]

pub place_In : (ns : List Node) (x : Node) → In x ns → place_in ns x < length ns
place_In (m ∷ ns) x i = elim (cases_Bool (eq_by_cmp node_cmp m x)) [
  | inl t ↦ rw (if_true (eq_by_cmp node_cmp m x) 0 (suc (place_in ns x)) t) (omega arith)
  | inr f ↦
      let e = if_false (eq_by_cmp node_cmp m x) 0 (suc (place_in ns x)) f in
      elim (In-cons_cases i) [
        | inl same ↦ absurd (false≢true (sym f ∙ (let P : Node → Type 0 = λ y. eq_by_cmp node_cmp m y ≡ true in subst P (sym same) (node_tells.itself m))))
        | inr j ↦ let l = place_In ns x j in rw e (omega arith)
      ]
]
place_In [] x i = elim i [ ]

-- two nodes that are there at one place are one
pub place_once : (ns : List Node) (x y : Node) → In x ns → place_in ns x ≡ place_in ns y → x ≡ y
place_once ns x y i e =
    let l = place_In ns x i in
    let g = place_get ns x l in
    let k = place_get ns y (omega (arith, e, l)) in
    same_Some x y (sym g ∙ ap (slice_get ns) e ∙ k)

-- what a binary search answers
pub search_found : (ns : List Node) (x : Node) (r : Result ℕ ℕ) → IsStrictlySortedBy node_cmp ns → IsSearchInRange r (length ns) → IsBinarySearchResult (λ y. node_cmp y x) ns r → IfSome (result_ok r) (λ place. place ≡ place_in ns x)
search_found ns x (Ok i) s b h = sym (place_is ns x i s (place_found node_cmp node_cmp_total node_ties ns x (Ok i) b h))
search_found ns x (Err i) s b h = tt

pub search_missing : (ns : List Node) (x : Node) (r : Result ℕ ℕ) → IsStrictlySortedBy node_cmp ns → IsBinarySearchResult (λ y. node_cmp y x) ns r → IfNone (result_ok r) (place_in ns x ≡ length ns)
search_missing ns x (Ok i) s h = tt
search_missing ns x (Err i) s h = place_absent ns x (place_missing node_cmp node_cmp_total node_ties ns x (Err i) h s)

-- a node whose place is the length of the list is not there
pub not_listed : (ns : List Node) (x : Node) → place_in ns x ≡ length ns → ¬ In x ns
not_listed ns x e i = let l = place_In ns x i in absurd (omega (arith, e, l))

-- ---- rows

get_beyond : {X : Type 0} (xs : List X) (i : ℕ) (d : X) → length xs ≤ i → slice_index_or xs i d ≡ d
get_beyond [] i d h = refl
get_beyond (x ∷ xs) zero d h = absurd (omega arith)
get_beyond (x ∷ xs) (suc i) d h = get_beyond xs i d (omega arith)

-- a row that ends before a place has nothing there
beyond_row : (none : Set) (count from : ℕ) (row : Row) (j : ℕ) → Ascends count from row → count ≤ j → context_in none row j ≡ none
beyond_row none count from [] j s h = refl
beyond_row none count from (r ∷ rs) j s h = if_false (r.0 == j) r.1 (context_in none rs j) (differ r.0 j (omega (arith, s.1))) ∙ beyond_row none count (suc r.0) rs j s.2 h
  where
    differ : (m n : ℕ) → (m ≡ n → ⊥) → (m == n) ≡ false
    differ m n e = grind arith

-- a node that is not there is equal to none
pub equal_absent : (none : Set) (rows : List Row) (ns ms : List Node) (x y : Node) (p : ℕ) (row : Row) → length rows ≡ length ms → ns ≡ ms → place_in ns y ≡ length ns → p ≡ place_in ms x
    → row ≡ slice_index_or rows p [] → Ascends (length rows) 0 row → none ≡ context_in none (slice_index_or rows (place_in ms x) []) (place_in ms y)
equal_absent none rows ns ms x y p row count e h at is s =
    let g : place_in ms y ≡ length ms = subst (λ (zs : List Node). place_in zs y ≡ length zs) e h in
    let f : row ≡ slice_index_or rows (place_in ms x) [] = is ∙ ap (λ n. slice_index_or rows n []) at in
    sym (beyond_row none (length rows) 0 (slice_index_or rows (place_in ms x) []) (place_in ms y) (subst (λ (r : Row). Ascends (length rows) 0 r) f s) (omega (arith, g, count)))
