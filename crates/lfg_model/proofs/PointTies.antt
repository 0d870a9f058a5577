-- Points, and ways to go on, that compare as equal are equal.
use Rattle.std.proofs.Common.{◌≡◌, ◌↔◌, IsTrue, true, refl, subst}
use Rattle.std.specs.declared.cmp.Ordering.{Ordering}
use Rattle.std.specs.declared.cmp.Ordering.TheVariants.{Less, Equal, Greater}
use Rattle.std.specs.Ordering.{nat_cmp, ordering_then, is_eq, eq_by_cmp}
use Rattle.std.specs.Cmp.{IsTotalOrder}
use Rattle.std.proofs.lemmas.Cmp.{eq_by_cmp_equiv}
use Rattle.lfg_terms.specs.Order.{edge_cmp}
use Rattle.lfg_terms.proofs.Ties.{nat_ties, edge_ties}
use Rattle.lfg_model.specs.declared.point.Point.{Point}
use Rattle.lfg_model.specs.declared.point.Next.{Next}
use Rattle.lfg_model.specs.declared.point.Next.TheVariants as next
use Rattle.lfg_model.specs.Points.{point_cmp, next_cmp, point_cmp_total, next_cmp_total}

both_equal : (o p : Ordering) → ordering_then o p ≡ Equal → (o ≡ Equal) × (p ≡ Equal)
both_equal Less p h = cc
both_equal Equal p h = (refl, h)
both_equal Greater p h = cc

pub point_ties : (p q : Point) → point_cmp p q ≡ Equal → p ≡ q
point_ties p q h =
    let o = both_equal (edge_cmp p.edge q.edge) (ordering_then (nat_cmp p.at q.at) (nat_cmp p.occ q.occ)) h in
    let r = both_equal (nat_cmp p.at q.at) (nat_cmp p.occ q.occ) o.1 in
    let a : p.edge ≡ q.edge = edge_ties p.edge q.edge o.0 in
    let b : p.at ≡ q.at = nat_ties p.at q.at r.0 in
    let c : p.occ ≡ q.occ = nat_ties p.occ q.occ r.1 in
    λ i. record { edge = a i; occ = c i; at = b i }

pub next_ties : (m n : Next) → next_cmp m n ≡ Equal → m ≡ n
next_ties (next.Item o t) (next.Item o' t') h =
    let r = both_equal (nat_cmp o o') (nat_cmp t t') h in
    let a : o ≡ o' = nat_ties o o' r.0 in
    let b : t ≡ t' = nat_ties t t' r.1 in
    λ i. next.Item (a i) (b i)
next_ties (next.Item o t) next.End h = cc
next_ties next.End (next.Item o t) h = cc
next_ties next.End next.End h = refl

is_equal : (o : Ordering) → is_eq o ≡ true → o ≡ Equal
is_equal Less h = cc
is_equal Equal h = refl
is_equal Greater h = cc

module _ {X : Type 0} (R : X → X → Ordering) (total : IsTotalOrder R) (ties : (x y : X) → R x y ≡ Equal → x ≡ y) where
  eq_same : (x y : X) → IsTrue (eq_by_cmp R x y) ↔ (x ≡ y)
  eq_same x y = (λ h. ties x y (is_equal (R x y) h), λ s. subst (λ z. eq_by_cmp R x z ≡ true) s ((eq_by_cmp_equiv total).refl x))

  cmp_same : (x y : X) → (R x y ≡ Equal) ↔ (x ≡ y)
  cmp_same x y = (ties x y, λ s. is_equal (R x y) ((eq_same x y).1 s))

pub point_cmp_same : (p q : Point) → (point_cmp p q ≡ Equal) ↔ (p ≡ q)
point_cmp_same = cmp_same point_cmp point_cmp_total point_ties

pub point_eq_same : (p q : Point) → IsTrue (eq_by_cmp point_cmp p q) ↔ (p ≡ q)
point_eq_same = eq_same point_cmp point_cmp_total point_ties

pub next_cmp_same : (m n : Next) → (next_cmp m n ≡ Equal) ↔ (m ≡ n)
next_cmp_same = cmp_same next_cmp next_cmp_total next_ties

pub next_eq_same : (m n : Next) → IsTrue (eq_by_cmp next_cmp m n) ↔ (m ≡ n)
next_eq_same = eq_same next_cmp next_cmp_total next_ties
