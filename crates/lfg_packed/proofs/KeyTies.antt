-- Keys that compare as equal are equal, and two places at which derivations part have two keys.
use Rattle.std.proofs.Common.{◌≡◌, ◌↔◌, ◌<◌, ◌⊎◌, inl, inr, arith, ℕ, IsTrue, true, refl, sym, ◌∙◌, ap, subst, List}
use Rattle.std.specs.declared.cmp.Ordering.{Ordering}
use Rattle.std.specs.declared.cmp.Ordering.TheVariants.{Less, Equal, Greater}
use Rattle.std.specs.Ordering.{nat_cmp, ordering_then, is_eq, eq_by_cmp, on}
use Rattle.std.specs.Cmp.{IsTotalOrder}
use Rattle.std.proofs.lemmas.Cmp.{eq_by_cmp_equiv}
use Rattle.lfg_terms.specs.Order.{edge_cmp}
use Rattle.lfg_terms.proofs.Ties.{nat_ties, edge_ties}
use Rattle.lfg_terms.specs.declared.node.Edge.{Edge}
use Rattle.lfg_terms.specs.declared.literal.Site.TheVariants as site
use Rattle.lfg_terms.specs.declared.grammar.Grammar.{Grammar}
use Rattle.lfg_terms.specs.declared.tree.TokenForms.{TokenForms}
use Rattle.lfg_model.specs.declared.point.Point.{Point}
use Rattle.lfg_packed.specs.declared.key.ChoiceKey.{ChoiceKey}
use Rattle.lfg_packed.specs.ChoicePoints.{ChoicePoint, NextAt, EntryAt, BranchAt, key_cmp, key_of, choice_cmp}
use Rattle.lfg_packed.specs.KeyLaws.{key_cmp_total}

both_equal : (o p : Ordering) → ordering_then o p ≡ Equal → (o ≡ Equal) × (p ≡ Equal)
both_equal Less p h = cc
both_equal Equal p h = (refl, h)
both_equal Greater p h = cc

-- a comparison of keys up to one of their parts
abbrev to_rank : ChoiceKey → ChoiceKey → Ordering
to_rank k l = ordering_then (edge_cmp k.edge l.edge) (nat_cmp k.rank l.rank)

abbrev to_from : ChoiceKey → ChoiceKey → Ordering
to_from k l = ordering_then (to_rank k l) (nat_cmp k.from l.from)

abbrev to_to : ChoiceKey → ChoiceKey → Ordering
to_to k l = ordering_then (to_from k l) (nat_cmp k.to l.to)

abbrev to_item : ChoiceKey → ChoiceKey → Ordering
to_item k l = ordering_then (to_to k l) (nat_cmp k.item l.item)

pub key_ties : (k l : ChoiceKey) → key_cmp k l ≡ Equal → k ≡ l
key_ties k l h =
    let a = both_equal (to_item k l) (nat_cmp k.place l.place) h in
    let b = both_equal (to_to k l) (nat_cmp k.item l.item) a.0 in
    let c = both_equal (to_from k l) (nat_cmp k.to l.to) b.0 in
    let d = both_equal (to_rank k l) (nat_cmp k.from l.from) c.0 in
    let e = both_equal (edge_cmp k.edge l.edge) (nat_cmp k.rank l.rank) d.0 in
    let edges : k.edge ≡ l.edge = edge_ties k.edge l.edge e.0 in
    let ranks : k.rank ≡ l.rank = nat_ties k.rank l.rank e.1 in
    let froms : k.from ≡ l.from = nat_ties k.from l.from d.1 in
    let tos : k.to ≡ l.to = nat_ties k.to l.to c.1 in
    let items : k.item ≡ l.item = nat_ties k.item l.item b.1 in
    let places : k.place ≡ l.place = nat_ties k.place l.place a.1 in
    λ i. record { edge = edges i; rank = ranks i; from = froms i; to = tos i; item = items i; place = places i }

is_equal : (o : Ordering) → is_eq o ≡ true → o ≡ Equal
is_equal Less h = cc
is_equal Equal h = refl
is_equal Greater h = cc

pub key_eq_same : (k l : ChoiceKey) → IsTrue (eq_by_cmp key_cmp k l) ↔ (k ≡ l)
key_eq_same k l = (λ h. key_ties k l (is_equal (key_cmp k l) h), λ s. subst (λ z. eq_by_cmp key_cmp k z ≡ true) s ((eq_by_cmp_equiv key_cmp_total).refl k))

pub key_cmp_same : (k l : ChoiceKey) → (key_cmp k l ≡ Equal) ↔ (k ≡ l)
key_cmp_same k l = (key_ties k l, λ s. is_equal (key_cmp k l) ((key_eq_same k l).1 s))

unlike : (m n : ℕ) → (m < n) ⊎ (n < m) → m ≡ n → ⊥
unlike m n (inl h) e = omega arith
unlike m n (inr h) e = omega arith

-- the place is read back from its key
pub one_place : (g : Grammar) (s : List TokenForms) (x y : ChoicePoint) → key_of g s x ≡ key_of g s y → x ≡ y
one_place g s (NextAt p) (NextAt q) h =
    let a : p.edge ≡ q.edge = ap (λ (k : ChoiceKey). k.edge) h in
    let b : p.at ≡ q.at = ap (λ (k : ChoiceKey). k.from) h in
    let c : p.occ ≡ q.occ = ap (λ (k : ChoiceKey). k.item) h in
    λ i. NextAt (record { edge = a i; occ = c i; at = b i })
one_place g s (NextAt p) (EntryAt e) h = absurd (unlike 0 1 (inl (omega arith)) (ap (λ (k : ChoiceKey). k.rank) h))
one_place g s (NextAt p) (BranchAt (site.Item e occ at to) j) h = absurd (unlike 0 2 (inl (omega arith)) (ap (λ (k : ChoiceKey). k.rank) h))
one_place g s (NextAt p) (BranchAt (site.Entry e n) j) h = absurd (unlike 0 3 (inl (omega arith)) (ap (λ (k : ChoiceKey). k.rank) h))
one_place g s (EntryAt d) (NextAt p) h = absurd (unlike 1 0 (inr (omega arith)) (ap (λ (k : ChoiceKey). k.rank) h))
one_place g s (EntryAt d) (EntryAt e) h = ap EntryAt (ap (λ (k : ChoiceKey). k.edge) h)
one_place g s (EntryAt d) (BranchAt (site.Item e occ at to) j) h = absurd (unlike 1 2 (inl (omega arith)) (ap (λ (k : ChoiceKey). k.rank) h))
one_place g s (EntryAt d) (BranchAt (site.Entry e n) j) h = absurd (unlike 1 3 (inl (omega arith)) (ap (λ (k : ChoiceKey). k.rank) h))
one_place g s (BranchAt (site.Item d o a t) i) (NextAt p) h = absurd (unlike 2 0 (inr (omega arith)) (ap (λ (k : ChoiceKey). k.rank) h))
one_place g s (BranchAt (site.Item d o a t) i) (EntryAt e) h = absurd (unlike 2 1 (inr (omega arith)) (ap (λ (k : ChoiceKey). k.rank) h))
one_place g s (BranchAt (site.Item d o a t) m) (BranchAt (site.Item e occ at to) j) h =
    let edges : d ≡ e = ap (λ (k : ChoiceKey). k.edge) h in
    let froms : a ≡ at = ap (λ (k : ChoiceKey). k.from) h in
    let tos : t ≡ to = ap (λ (k : ChoiceKey). k.to) h in
    let items : o ≡ occ = ap (λ (k : ChoiceKey). k.item) h in
    let places : m ≡ j = ap (λ (k : ChoiceKey). k.place) h in
    λ i. BranchAt (site.Item (edges i) (items i) (froms i) (tos i)) (places i)
one_place g s (BranchAt (site.Item d o a t) i) (BranchAt (site.Entry e n) j) h = absurd (unlike 2 3 (inl (omega arith)) (ap (λ (k : ChoiceKey). k.rank) h))
one_place g s (BranchAt (site.Entry d m) i) (NextAt p) h = absurd (unlike 3 0 (inr (omega arith)) (ap (λ (k : ChoiceKey). k.rank) h))
one_place g s (BranchAt (site.Entry d m) i) (EntryAt e) h = absurd (unlike 3 1 (inr (omega arith)) (ap (λ (k : ChoiceKey). k.rank) h))
one_place g s (BranchAt (site.Entry d m) i) (BranchAt (site.Item e occ at to) j) h = absurd (unlike 3 2 (inr (omega arith)) (ap (λ (k : ChoiceKey). k.rank) h))
one_place g s (BranchAt (site.Entry d m) l) (BranchAt (site.Entry e n) j) h =
    let edges : d ≡ e = ap (λ (k : ChoiceKey). k.edge) h in
    let entries : m ≡ n = ap (λ (k : ChoiceKey). k.item) h in
    let places : l ≡ j = ap (λ (k : ChoiceKey). k.place) h in
    λ i. BranchAt (site.Entry (edges i) (entries i)) (places i)

pub choice_ties : (g : Grammar) (s : List TokenForms) (x y : ChoicePoint) → choice_cmp g s x y ≡ Equal → x ≡ y
choice_ties g s x y h = one_place g s x y (key_ties (key_of g s x) (key_of g s y) h)
