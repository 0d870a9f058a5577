-- Which junctions are listed, one after the other.
use Rattle.std.proofs.Common.{◌≡◌, ◌↔◌, ℕ, zero, suc, ◌≤◌, Some, List, [], ◌∷◌, ◌++◌, length, slice_get, ap, sym, subst, ◌∙◌}
use Rattle.std.proofs.lemmas.Option.{same_Some}
use Rattle.lfg_terms.specs.declared.node.Edge.{Edge}
use Rattle.lfg_terms.specs.declared.grammar.Grammar.{Grammar}
use Rattle.lfg_model.specs.declared.point.Point.{Point}
use Rattle.lfg_model.specs.Charts.{Fork, points_of}
use Rattle.lfg_model.specs.Places.{places}
use Rattle.lfg_packed.specs.declared.key.ChoiceKey.{ChoiceKey}
use Rattle.lfg_packed.specs.Choices.{annotation_at}
use Rattle.lfg_instant.specs.declared.junctions.Junction.{Junction}
use Rattle.lfg_instant.specs.Collects.{Collects}
use Rattle.lfg_instant.specs.Junctions.{IsJunction, next_key, entry_key, at_place, IsForkJunction, IsEdgeJunction, IsNumberJunction, IsPlaceJunction, IsSiteJunction}
use Rattle.lfg_instant.specs.Sites.{site_of_key}
use Rattle.lfg_instant.proofs.CollectLaws.{collects_along, collects_one}

pub one_junction : (js ks : List Junction) (key : ChoiceKey) (many n : ℕ) → 2 ≤ many → n ≡ many → ks ≡ js ++ record { key = key; alternatives = n } ∷ [] → Collects js ks (IsJunction key many)
one_junction js ks key many n two e is = collects_along js ks (λ j. j ≡ new) (IsJunction key many)
    (λ j. (
      (λ h. record { two = two; key_is = ap (λ (i : Junction). i.key) h; many_is = ap (λ (i : Junction). i.alternatives) h ∙ e }),
      (λ h. (let k : j.key ≡ key = h.key_is in let n' : j.alternatives ≡ n = h.many_is ∙ sym e in λ i. record { key = k i; alternatives = n' i })),
    )) (collects_one js ks new is)
  where
    new : Junction
    new = record { key = key; alternatives = n }

-- the same key and number give the same junctions
pub along : {j : Junction} (k l : ChoiceKey) (m n : ℕ) → k ≡ l → m ≡ n → IsJunction k m j → IsJunction l n j
along k l m n e f h = record { two = (let P : ℕ → Type 0 = λ z. 2 ≤ z in subst P f h.two); key_is = h.key_is ∙ e; many_is = h.many_is ∙ f }

-- the point of a fork
pub fork_point : (forks : List Fork) (m : ℕ) (p : Point) (fork : Fork) → slice_get (points_of forks) m ≡ Some p → slice_get forks m ≡ Some fork → p ≡ fork.0
fork_point [] m p fork h at = cc
fork_point (f ∷ forks) zero p fork h at = sym (same_Some f.0 p h) ∙ ap (λ (z : Fork). z.0) (same_Some f fork at)
fork_point (f ∷ forks) (suc m) p fork h at = fork_point forks m p fork h at

pub fork_same : (forks : List Fork) (m : ℕ) (fork : Fork) (key : ChoiceKey) (many : ℕ) → slice_get forks m ≡ Some fork → key ≡ next_key fork.0 → many ≡ length fork.1
    → (j : Junction) → IsForkJunction forks m j ↔ IsJunction key many j
fork_same forks m fork key many at k n j = (
  (λ h. (let e : h.0 ≡ fork = same_Some h.0 fork (sym h.1 ∙ at) in
      along (next_key h.0.0) key (length h.0.1) many (ap (λ (z : Fork). next_key z.0) e ∙ sym k) (ap (λ (z : Fork). length z.1) e ∙ sym n) h.2)),
  (λ h. (fork, at, along key (next_key fork.0) many (length fork.1) k n h)),
)

pub edge_same : (edges : List Edge) (lists : List (List ℕ)) (m : ℕ) (e : Edge) (ks : List ℕ) (key : ChoiceKey) (many : ℕ) → slice_get edges m ≡ Some e → slice_get lists m ≡ Some ks
    → key ≡ entry_key e → many ≡ length ks → (j : Junction) → IsEdgeJunction edges lists m j ↔ IsJunction key many j
edge_same edges lists m e ks key many at beside k n j = (
  (λ h. along (entry_key h.0) key (length h.1) many (ap entry_key (same_Some h.0 e (sym h.2 ∙ at)) ∙ sym k) (ap (λ (z : List ℕ). length z) (same_Some h.1 ks (sym h.3 ∙ beside)) ∙ sym n) h.4),
  (λ h. (e, ks, at, beside, along key (entry_key e) many (length ks) k n h)),
)

pub number_same : (k : ChoiceKey) (ns : List ℕ) (m n : ℕ) (key : ChoiceKey) (many : ℕ) → slice_get ns m ≡ Some n → key ≡ at_place k m → many ≡ n
    → (j : Junction) → IsNumberJunction k ns m j ↔ IsJunction key many j
number_same k ns m n key many at e f j = (
  (λ h. along (at_place k m) key h.0 many (sym e) (same_Some h.0 n (sym h.1 ∙ at) ∙ sym f) h.2),
  (λ h. (n, at, along key (at_place k m) many n e f h)),
)

pub site_same : (g : Grammar) (keys : List ChoiceKey) (m : ℕ) (k : ChoiceKey) (ns : List ℕ) → slice_get keys m ≡ Some k → ns ≡ places (annotation_at g (site_of_key k))
    → (j : Junction) → IsSiteJunction g keys m j ↔ IsPlaceJunction k ns j
site_same g keys m k ns at e j = (
  (λ h. (let P : List ℕ → Type 0 = λ z. IsPlaceJunction k z j in
      let Q : ChoiceKey → Type 0 = λ z. IsPlaceJunction z (places (annotation_at g (site_of_key z))) j in
      subst P (sym e) (subst Q (same_Some h.0 k (sym h.1 ∙ at)) h.2))),
  (λ h. (let P : List ℕ → Type 0 = λ z. IsPlaceJunction k z j in (k, at, subst P e h))),
)
