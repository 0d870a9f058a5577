-- Junctions that compare as equal are equal.
use Rattle.std.proofs.Common.{◌≡◌, ◌↔◌, IsTrue, true, refl, subst}
use Rattle.std.specs.declared.cmp.Ordering.{Ordering}
use Rattle.std.specs.declared.cmp.Ordering.TheVariants.{Less, Equal, Greater}
use Rattle.std.specs.Ordering.{nat_cmp, ordering_then, is_eq, eq_by_cmp}
use Rattle.std.proofs.lemmas.Cmp.{eq_by_cmp_equiv}
use Rattle.lfg_terms.proofs.Ties.{nat_ties}
use Rattle.lfg_packed.specs.ChoicePoints.{key_cmp}
use Rattle.lfg_packed.proofs.KeyTies.{key_ties}
use Rattle.lfg_instant.specs.declared.junctions.Junction.{Junction}
use Rattle.lfg_instant.specs.JunctionOrder.{junction_cmp, junction_cmp_total}

both_equal : (o p : Ordering) → ordering_then o p ≡ Equal → (o ≡ Equal) × (p ≡ Equal)
both_equal Less p h = cc
both_equal Equal p h = (refl, h)
both_equal Greater p h = cc

pub junction_ties : (j k : Junction) → junction_cmp j k ≡ Equal → j ≡ k
junction_ties j k h =
    let a = both_equal (key_cmp j.key k.key) (nat_cmp j.alternatives k.alternatives) h in
    let keys : j.key ≡ k.key = key_ties j.key k.key a.0 in
    let numbers : j.alternatives ≡ k.alternatives = nat_ties j.alternatives k.alternatives a.1 in
    λ i. record { key = keys i; alternatives = numbers i }

is_equal : (o : Ordering) → is_eq o ≡ true → o ≡ Equal
is_equal Less h = cc
is_equal Equal h = refl
is_equal Greater h = cc

pub junction_eq_same : (j k : Junction) → IsTrue (eq_by_cmp junction_cmp j k) ↔ (j ≡ k)
junction_eq_same j k = (λ h. junction_ties j k (is_equal (junction_cmp j k) h), λ s. subst (λ z. eq_by_cmp junction_cmp j z ≡ true) s ((eq_by_cmp_equiv junction_cmp_total).refl j))

pub junction_cmp_same : (j k : Junction) → (junction_cmp j k ≡ Equal) ↔ (j ≡ k)
junction_cmp_same j k = (junction_ties j k, λ s. is_equal (junction_cmp j k) ((junction_eq_same j k).1 s))
