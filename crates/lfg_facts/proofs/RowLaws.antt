-- Rows of a closure: the places that stand in them, in order.
use Rattle.std.proofs.Common.{◌≡◌, ◌≢◌, ℕ, zero, suc, ◌+◌, ◌<◌, ◌≤◌, Bool, true, false, ◌==◌, ◌⊎◌, inl, inr, List, [], ◌∷◌, length, get_or, take, Some, sym, refl, ◌∙◌, ap, subst, arith, Less}
use Rattle.std.specs.Prelude.{if◌then◌else◌, slice_get, slice_index_or}
use Rattle.std.specs.List.Sorted.{IsStrictlySortedBy}
use Rattle.std.proofs.lemmas.Map.Keys.{Less-from_sorted}
use Rattle.std.proofs.lemmas.Option.{slice_get_within, get_or_from_slice_get}
use Rattle.lfg_terms.specs.Order.{node_cmp}
use Rattle.lfg_terms.specs.declared.node.Node.{Node}
use Rattle.lfg_model.specs.Lists.{In, here, later}
use Rattle.lfg_model.proofs.ListLaws.{In-at, In-nil, In-cons_cases, In-take_more}
use Rattle.lfg_context.specs.Seen.{Set}
use Rattle.lfg_context.specs.Sets.{Assignment, member}
use Rattle.lfg_context.proofs.Telling.{true_not_false, In-take_one, In-take_last}
use Rattle.lfg_unify.specs.Closures.{Row, Ascends, context_in}
use Rattle.lfg_unify.specs.Rows.{Stands}

pub get_beyond : {X : Type 0} (xs : List X) (i : ℕ) (d : X) → length xs ≤ i → slice_index_or xs i d ≡ d
get_beyond [] i d h = refl
get_beyond (x ∷ xs) zero d h = absurd (omega arith)
get_beyond (x ∷ xs) (suc i) d h = get_beyond xs i d (omega arith)

pub ascends_entry : (count from : ℕ) (row : Row) (n : ℕ) (d : ℕ × Set) → Ascends count from row → n < length row → d ≡ get_or row n d → d.0 < count
ascends_entry count from [] n d s h e = absurd (omega arith)
ascends_entry count from (r ∷ rs) zero d s h e = subst (λ (v : ℕ). v < count) (sym (ap (λ v. v.0) e)) s.1
ascends_entry count from (r ∷ rs) (suc n) d s h e = ascends_entry count (suc r.0) rs n d s.2 (omega arith) e

ascends_lower : (count from : ℕ) (row : Row) (y : ℕ) (z : Set) → Ascends count from row → In (y, z) row → from ≤ y
ascends_lower count from [] y z s i = In-nil i
ascends_lower count from (r ∷ rs) y z s i = elim (In-cons_cases i) [
  | inl e ↦ subst (λ (v : ℕ). from ≤ v) (sym (ap (λ v. v.0) e)) s.0
  | inr j ↦ let h = ascends_lower count (suc r.0) rs y z s.2 j in omega (arith, h, s.0)
]

pub stands_below : (count from : ℕ) (row : Row) (y : ℕ) (z : Set) → Ascends count from row → In (y, z) row → y < count
stands_below count from [] y z s i = In-nil i
stands_below count from (r ∷ rs) y z s i = elim (In-cons_cases i) [
  | inl e ↦ subst (λ (v : ℕ). v < count) (sym (ap (λ v. v.0) e)) s.1
  | inr j ↦ stands_below count (suc r.0) rs y z s.2 j
]

-- what stands before an entry has a lower place
pub taken_lower : (count from : ℕ) (row : Row) (n : ℕ) (d : ℕ × Set) (y : ℕ) (z : Set) → Ascends count from row → n < length row → d ≡ get_or row n d → In (y, z) (take n row) → y < d.0
taken_lower count from [] n d y z s h e i = absurd (omega arith)
taken_lower count from (r ∷ rs) zero d y z s h e i = In-nil i
taken_lower count from (r ∷ rs) (suc n) d y z s h e i = elim (In-cons_cases i) [
  | inl f ↦
      let first : y ≡ r.0 = ap (λ v. v.0) f in
      let P : (ℕ × Set) → Type 0 = λ v. In v rs in
      let low = ascends_lower count (suc r.0) rs d.0 d.1 s.2 (subst P (sym e) (In-at rs n d (omega arith))) in
      omega (arith, first, low)
  | inr j ↦ taken_lower count (suc r.0) rs n d y z s.2 (omega arith) e j
]

-- the context beside a place, and where the place stands
pub context_stands : (none : Set) (row : Row) (a : Assignment) (j : ℕ) → member none a ≡ false → member (context_in none row j) a ≡ true → Stands row a j
context_stands none [] a j n h = absurd (true_not_false h n)
context_stands none (r ∷ rs) a j n h = by_place (λ k. context_stands none rs a j n k) (r.0 == j) refl h
  where
    same : (m n : ℕ) → (m == n) ≡ true → m ≡ n
    same m n e = grind arith

    by_place : (member (context_in none rs j) a ≡ true → Stands rs a j) → (b : Bool) → (r.0 == j) ≡ b → member (if b then r.1 else context_in none rs j) a ≡ true → Stands (r ∷ rs) a j
    by_place ih true e h = record { set = r.1; listed = (let P : ℕ → Type 0 = λ v. In (v, r.1) (r ∷ rs) in subst P (same r.0 j e) here); holds = h }
    by_place ih false e h = let s = ih h in record { set = s.set; listed = later s.listed; holds = s.holds }

pub stands_context : (none : Set) (count from : ℕ) (row : Row) (a : Assignment) (j : ℕ) → Ascends count from row → Stands row a j → member (context_in none row j) a ≡ true
stands_context none count from [] a j s h = In-nil h.listed
stands_context none count from (r ∷ rs) a j s h = by_place (λ k. stands_context none count (suc r.0) rs a j s.2 k) (r.0 == j) refl (In-cons_cases h.listed)
  where
    same : (m n : ℕ) → (m == n) ≡ true → m ≡ n
    same m n e = grind arith

    apart : (m n : ℕ) → (m == n) ≡ false → m ≢ n
    apart m n e = grind arith

    by_place : (Stands rs a j → member (context_in none rs j) a ≡ true) → (b : Bool) → (r.0 == j) ≡ b → (◌≡◌ {A = ℕ × Set} (j, h.set) r) ⊎ In (j, h.set) rs → member (if b then r.1 else context_in none rs j) a ≡ true
    by_place ih true e (inl f) = sym (ap (λ (v : ℕ × Set). member v.1 a) f) ∙ h.holds
    by_place ih true e (inr i) =
        let low = ascends_lower count (suc r.0) rs j h.set s.2 i in
        let at = same r.0 j e in
        absurd (omega (arith, low, at))
    by_place ih false e (inl f) = absurd (apart r.0 j e (sym (ap (λ (v : ℕ × Set). v.0) f)))
    by_place ih false e (inr i) = ih (record { set = h.set; listed = i; holds = h.holds })

-- the first entries of a row, one by one
pub stands_one : (row : Row) (n : ℕ) (d : ℕ × Set) (a : Assignment) (y : ℕ) → n < length row → Stands (take n row) a y → Stands (take (n + 1) row) a y
stands_one row n d a y h s = record { set = s.set; listed = In-take_one row n d h s.listed; holds = s.holds }

pub stands_last : (row : Row) (n : ℕ) (d : ℕ × Set) (a : Assignment) → n < length row → d ≡ get_or row n d → member d.1 a ≡ true → Stands (take (n + 1) row) a d.0
stands_last row n d a h e m = record { set = d.1; listed = (let P : (ℕ × Set) → Type 0 = λ v. In v (take (n + 1) row) in subst P (sym e) (In-take_last row n d h)); holds = m }

pub stands_more : (row : Row) (n : ℕ) (d : ℕ × Set) (a : Assignment) (y : ℕ) → n < length row → d ≡ get_or row n d → Stands (take (n + 1) row) a y → Stands (take n row) a y ⊎ ((y ≡ d.0) × (member d.1 a ≡ true))
stands_more row n d a y h e s = elim (In-take_more row n d h s.listed) [
  | inl i ↦ inl (record { set = s.set; listed = i; holds = s.holds })
  | inr f ↦ (let g : ◌≡◌ {A = ℕ × Set} (y, s.set) d = f ∙ sym e in inr (ap (λ r. r.0) g, sym (ap (λ r. member r.1 a) g) ∙ s.holds))
]

-- nodes at lower places come before
pub node_before : (ns : List Node) (i j : ℕ) (x y : Node) → IsStrictlySortedBy node_cmp ns → slice_get ns i ≡ Some x → slice_get ns j ≡ Some y → i < j → node_cmp x y ≡ Less
node_before ns i j x y s h g l =
    let less = Less-from_sorted node_cmp ns i j x s l (slice_get_within ns j y g) in
    rw (get_or_from_slice_get ns i x x h, get_or_from_slice_get ns j y x g) at less
