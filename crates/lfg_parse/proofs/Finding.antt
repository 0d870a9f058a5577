-- What a list of things has at a place, if anything.
use Rattle.std.proofs.Common.{◌≡◌, ◌↔◌, ℕ, List, [], ◌∷◌, refl, sym, ap, subst, ◌∙◌, inl, inr, ◌⊎◌}
use Rattle.std.specs.declared.cmp.Ordering.{Ordering}
use Rattle.std.specs.declared.cmp.Ordering.TheVariants.{Less, Equal, Greater}
use Rattle.lfg_terms.specs.Order.{edge_cmp}
use Rattle.lfg_terms.proofs.Ties.{edge_cmp_same}
use Rattle.lfg_terms.specs.declared.node.Edge.{Edge}
use Rattle.lfg_terms.specs.declared.literal.Site.{Site}
use Rattle.lfg_terms.specs.declared.grammar.Grammar.{Grammar}
use Rattle.lfg_terms.specs.declared.tree.TokenForms.{TokenForms}
use Rattle.lfg_model.specs.declared.point.Point.{Point}
use Rattle.lfg_model.specs.declared.point.Next.{Next}
use Rattle.lfg_model.specs.Lists.{In, here, later}
use Rattle.lfg_model.specs.Points.{point_cmp}
use Rattle.lfg_model.specs.Spots.{Spot, AnEdge, AStep, AWord, APick}
use Rattle.lfg_model.proofs.ListLaws.{In-nil, In-cons_cases}
use Rattle.lfg_model.proofs.PointTies.{point_cmp_same}
use Rattle.lfg_packed.specs.ChoicePoints.{BranchAt, key_of, key_cmp}
use Rattle.lfg_packed.proofs.KeyTies.{key_cmp_same, one_place}

-- an order that ties equals alone tells whether two are equal
pub tells : {K : Type 0} (cmp : K → K → Ordering) → ((j k : K) → (cmp j k ≡ Equal) ↔ (j ≡ k)) → (j k : K) → (j ≡ k) ⊎ (j ≡ k → ⊥)
tells cmp same j k = go (cmp j k) refl
  where
    go : (o : Ordering) → cmp j k ≡ o → (j ≡ k) ⊎ (j ≡ k → ⊥)
    go Less h = inr (λ e. (let never : Less ≡ Equal = sym h ∙ (same j k).1 e in cc))
    go Equal h = inl ((same j k).0 h)
    go Greater h = inr (λ e. (let never : Greater ≡ Equal = sym h ∙ (same j k).1 e in cc))

-- things of one kind, each with its place and what is there
module _ {K V : Type 0} (made : K → V → Spot) (place_same : (j k : K) (v w : V) → made j v ≡ made k w → j ≡ k)
    (is_made : (x : Spot) → ((j : K) × (v : V) × (x ≡ made j v)) ⊎ ((j : K) (v : V) → x ≡ made j v → ⊥))
    (same_place : (j k : K) → (j ≡ k) ⊎ (j ≡ k → ⊥)) where
  find_in : (xs : List Spot) (k : K) → ((v : V) × In (made k v) xs) ⊎ ((v : V) → In (made k v) xs → ⊥)
  find_in [] k = inr (λ v i. In-nil i)
  find_in (x ∷ xs) k = go (is_made x) (find_in xs k)
    where
      skip : ((v : V) → x ≡ made k v → ⊥) → ((v : V) × In (made k v) xs) ⊎ ((v : V) → In (made k v) xs → ⊥) → ((v : V) × In (made k v) (x ∷ xs)) ⊎ ((v : V) → In (made k v) (x ∷ xs) → ⊥)
      skip unlike (inl r) = inl (r.0, later r.1)
      skip unlike (inr none) = inr (λ v i. elim (In-cons_cases i) [ inl e ↦ unlike v (sym e) | inr j ↦ none v j ])

      go : ((j : K) × (v : V) × (x ≡ made j v)) ⊎ ((j : K) (v : V) → x ≡ made j v → ⊥) → ((v : V) × In (made k v) xs) ⊎ ((v : V) → In (made k v) xs → ⊥)
          → ((v : V) × In (made k v) (x ∷ xs)) ⊎ ((v : V) → In (made k v) (x ∷ xs) → ⊥)
      go (inl c) rest =
          let P : Spot → Type 0 = λ z. In z (x ∷ xs) in
          elim (same_place c.0 k) [
            | inl e ↦ inl (c.1, subst P (c.2 ∙ ap (λ (j : K). made j c.1) e) here)
            | inr unlike ↦ skip (λ v h. unlike (place_same c.0 k c.1 v (sym c.2 ∙ h))) rest
          ]
      go (inr none) rest = skip (λ v h. none k v h) rest

step_places : (p q : Point) (m n : Next) → AStep p m ≡ AStep q n → p ≡ q
step_places p q m n h = cc

word_places : (e f : Edge) (m n : ℕ) → AWord e m ≡ AWord f n → e ≡ f
word_places e f m n h = cc

pick_places : (at to : Site) (m n : List ℕ) → APick at m ≡ APick to n → at ≡ to
pick_places at to m n h = cc

a_step : (x : Spot) → ((p : Point) × (n : Next) × (x ≡ AStep p n)) ⊎ ((p : Point) (n : Next) → x ≡ AStep p n → ⊥)
a_step (AnEdge e) = inr (λ p n h. cc)
a_step (AStep p n) = inl (p, n, refl)
a_step (AWord e k) = inr (λ p n h. cc)
a_step (APick at picks) = inr (λ p n h. cc)

a_word : (x : Spot) → ((e : Edge) × (k : ℕ) × (x ≡ AWord e k)) ⊎ ((e : Edge) (k : ℕ) → x ≡ AWord e k → ⊥)
a_word (AnEdge e) = inr (λ f k h. cc)
a_word (AStep p n) = inr (λ f k h. cc)
a_word (AWord e k) = inl (e, k, refl)
a_word (APick at picks) = inr (λ f k h. cc)

a_pick : (x : Spot) → ((at : Site) × (picks : List ℕ) × (x ≡ APick at picks)) ⊎ ((at : Site) (picks : List ℕ) → x ≡ APick at picks → ⊥)
a_pick (AnEdge e) = inr (λ at picks h. cc)
a_pick (AStep p n) = inr (λ at picks h. cc)
a_pick (AWord e k) = inr (λ at picks h. cc)
a_pick (APick at picks) = inl (at, picks, refl)

pub find_step : (xs : List Spot) (p : Point) → ((n : Next) × In (AStep p n) xs) ⊎ ((n : Next) → In (AStep p n) xs → ⊥)
find_step xs p = find_in AStep step_places a_step (tells point_cmp point_cmp_same) xs p

pub find_word : (xs : List Spot) (e : Edge) → ((k : ℕ) × In (AWord e k) xs) ⊎ ((k : ℕ) → In (AWord e k) xs → ⊥)
find_word xs e = find_in AWord word_places a_word (tells edge_cmp edge_cmp_same) xs e

-- an item or entry is told by the key of its first place
pub find_pick : (g : Grammar) (s : List TokenForms) (xs : List Spot) (at : Site) → ((picks : List ℕ) × In (APick at picks) xs) ⊎ ((picks : List ℕ) → In (APick at picks) xs → ⊥)
find_pick g s xs at = find_in APick pick_places a_pick same_site xs at
  where
    one_site : (a b : Site) → BranchAt a 0 ≡ BranchAt b 0 → a ≡ b
    one_site a b h = cc

    same_site : (a b : Site) → (a ≡ b) ⊎ (a ≡ b → ⊥)
    same_site a b = elim (tells key_cmp key_cmp_same (key_of g s (BranchAt a 0)) (key_of g s (BranchAt b 0))) [
      | inl e ↦ inl (one_site a b (one_place g s (BranchAt a 0) (BranchAt b 0) e))
      | inr unlike ↦ inr (λ e. unlike (ap (λ (z : Site). key_of g s (BranchAt z 0)) e))
    ]
