-- Tables that grow by making one class of two, and rows that are alike.
use Rattle.std.proofs.Common.{◌≡◌, ◌≢◌, ℕ, ◌+◌, ◌<◌, ◌≤◌, true, false, ◌&&◌, ◌⊎◌, inl, inr, List, [], ◌∷◌, length, get_or, take, sym, refl, ◌∙◌, ap, subst, arith}
use Rattle.std.proofs.lemmas.List.{take_all}
use Rattle.lfg_model.specs.Lists.{In}
use Rattle.lfg_model.specs.Equal.{joined}
use Rattle.lfg_model.proofs.ListLaws.{In-at, In-nil}
use Rattle.lfg_context.specs.Seen.{Set, Known}
use Rattle.lfg_context.specs.Sets.{Assignment, member, IsMade}
use Rattle.lfg_context.proofs.Telling.{and_true}
use Rattle.lfg_unify.specs.Closures.{Row, context_in}
use Rattle.lfg_unify.specs.Rows.{Stands, Has, row_of, IsRow, AreRows, Takes}
use Rattle.lfg_unify.specs.Systems.{Arc, EqualIn, IsGrowth}
use Rattle.lfg_unify.proofs.SweepLaws.{one_row, one_kept, stands_more, at_place, context_made, context_stands, growth_trans}

-- where the set holds, the place is paired with what the row has
pub reach_growth : (arcs : List Arc) (old new : List Row) (i first second : ℕ) (near far z : Set) (row : Row) → length new ≡ length old → ((x : ℕ) → x ≢ i → row_of new x ≡ row_of old x)
    → Takes (row_of old i) z row (row_of new i)
    → ((a : Assignment) → member near a ≡ true → Has old a i first) → ((a : Assignment) → member far a ≡ true → Has old a first second)
    → ((a : Assignment) → member z a ≡ (member near a && member far a)) → ((a : Assignment) (y : ℕ) → Stands row a y → Has old a second y) → IsGrowth arcs old new
reach_growth arcs old new i first second near far z row len others w one two m held = record {
  len = len;
  keeps = λ a x y h. one_kept old new i a x y others (λ s. (w.each a y).1 (inl s)) h;
  sound = λ s e p. record {
    each = λ a x y h. elim (one_row old new i a x y others h) [
      | inl k ↦ p.each a x y k
      | inr q ↦ subst (λ (n : ℕ). EqualIn s a n y) (sym q.0) (elim ((w.each a y).0 q.1) [
        | inl t ↦ p.each a i y t
        | inr r ↦
            let b = and_true (member near a) (member far a) (sym (m a) ∙ r.0) in
            joined (p.each a i first (one a b.0)) (joined (p.each a first second (two a b.1)) (p.each a second y (held a y r.1)))
      ])
    ];
  };
}

-- the context beside a place of a row that was read from a table
pub context_has : (rows : List Row) (row : Row) (none z : Set) (i j : ℕ) → row ≡ row_of rows i → z ≡ context_in none row j → ((a : Assignment) → member none a ≡ false)
    → (a : Assignment) → member z a ≡ true → Has rows a i j
context_has rows row none z i j e f n a h = subst (λ (r : Row). Stands r a j) e (context_stands none row a j (n a) (sym (ap (λ s. member s a) f) ∙ h))

pub context_is_made : {k : Known} (rows : List Row) (row : Row) (none z : Set) (i j : ℕ) → row ≡ row_of rows i → z ≡ context_in none row j → IsMade k none → AreRows k rows → IsMade k z
context_is_made {k} rows row none z i j e f m r =
    subst (λ (s : Set). IsMade k s) (sym f) (context_made none row j m (subst (λ (r : Row). IsRow k r) (sym e) (r.each i)))

-- a copied row
pub copied_held : (old now : List Row) (row : Row) (i : ℕ) → row ≡ row_of old i → ((a : Assignment) (x y : ℕ) → Has old a x y → Has now a x y) → (a : Assignment) (y : ℕ) → Stands row a y → Has now a i y
copied_held old now row i e keeps a y s = keeps a i y (subst (λ (r : Row). Stands r a y) e s)

-- ---- rows that are alike

pub alike_none : (first : Row) (a : Assignment) (y : ℕ) → Stands [] a y → Stands first a y
alike_none first a y s = In-nil s.listed

pub alike_more : (first second : Row) (n : ℕ) (d e : ℕ × Set) → n < length first → n < length second → d ≡ get_or first n d → e ≡ get_or second n e → d.0 ≡ e.0
    → ((a : Assignment) → member d.1 a ≡ member e.1 a) → ((a : Assignment) (y : ℕ) → Stands (take n second) a y → Stands first a y)
    → (a : Assignment) (y : ℕ) → Stands (take (n + 1) second) a y → Stands first a y
alike_more first second n d e h l is it place same before a y s = elim (stands_more second n e a y l it s) [
  | inl t ↦ before a y t
  | inr p ↦ at_place first a d.0 y (place ∙ sym p.0) (record {
    set = d.1;
    listed = (let P : (ℕ × Set) → Type 0 = λ v. In v first in subst P (sym is) (In-at first n d h));
    holds = same a ∙ p.1;
  })
]

pub alike_all : (first second : Row) (n : ℕ) → length second ≤ n → ((a : Assignment) (y : ℕ) → Stands (take n second) a y → Stands first a y) → (a : Assignment) (y : ℕ) → Stands second a y → Stands first a y
alike_all first second n h all = subst (λ (r : Row). (a : Assignment) (y : ℕ) → Stands r a y → Stands first a y) (take_all n second h) all

pub takes_known : (row other : Row) (z : Set) → ((a : Assignment) (y : ℕ) → Stands other a y → Stands row a y) → Takes row z other row
takes_known row other z known = record { each = λ a y. ((λ s. inl s), (λ s. elim s [ inl t ↦ t | inr p ↦ known a y p.1 ])) }
