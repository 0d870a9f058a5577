-- The nodes of a tree, and where its facts come from.
use Rattle.std.proofs.Common.{◌≡◌, ℕ, ◌+◌, List, [], ◌∷◌, ◌++◌, refl, sym, subst, inl, inr, ◌⊎◌, Option, Some, None}
use Rattle.std.specs.Prelude.{slice_get}
use Rattle.lfg_terms.specs.declared.node.Edge.{Edge}
use Rattle.lfg_terms.specs.declared.node.Fact.{Fact}
use Rattle.lfg_terms.specs.declared.tree.TokenForms.{TokenForms}
use Rattle.lfg_model.specs.Lists.{In, here, later, Once, none, more}
use Rattle.lfg_model.specs.Terms.{Tree, leaf, inner, Parts, no_part, empty, daughter}
use Rattle.lfg_model.specs.Derive.{edge}
use Rattle.lfg_model.specs.Trees.{width, edge_of, under, word_facts, tree_facts, parts_facts}
use Rattle.lfg_model.specs.PairTexts.{same_edge, branch_of, is_under}
use Rattle.lfg_model.specs.Brackets.{edges, parts_edges}
use Rattle.lfg_model.proofs.ListLaws.{In-append_left, In-append_right, In-append_cases, In-cons_cases, In-nil, In-one}

-- the facts under a tree's own edge
abbrev pub daughters : Edge → Parts → ℕ → List Fact
daughters mother no_part at = []
daughters mother (empty occ picks rest) at = daughters mother rest at
daughters mother (daughter occ picks below rest) at = under (edge_of below at) mother ∷ daughters mother rest (at + width below)

abbrev pub direct : List TokenForms → Tree → ℕ → List Fact
direct s (leaf cat entry picks) from = word_facts (slice_get s from) (edge cat from (from + 1))
direct s (inner cat parts) from = daughters (edge_of (inner cat parts) from) parts from

-- the tree b stands at p within a tree, or within parts
mutual
  pub data Within (b : Tree) (p : ℕ) : Tree → ℕ → Type 0 where
    whole : Within b p b p
    inside : {cat : _} {parts : Parts} {from : ℕ} → WithinParts b p parts from → Within b p (inner cat parts) from

  pub data WithinParts (b : Tree) (p : ℕ) : Parts → ℕ → Type 0 where
    skip : {occ : ℕ} {picks : List ℕ} {rest : Parts} {at : ℕ} → WithinParts b p rest at → WithinParts b p (empty occ picks rest) at
    first : {occ : ℕ} {picks : List ℕ} {below : Tree} {rest : Parts} {at : ℕ} → Within b p below at → WithinParts b p (daughter occ picks below rest) at
    then : {occ : ℕ} {picks : List ℕ} {below : Tree} {rest : Parts} {at : ℕ} → WithinParts b p rest (at + width below) → WithinParts b p (daughter occ picks below rest) at

pub record ComesFrom (s : List TokenForms) (f : Fact) (d : Tree) (from : ℕ) : Type 0 where
  pub tree : Tree
  pub place : ℕ
  pub within : Within tree place d from
  pub direct' : In f (direct s tree place)

pub record ComesFromParts (s : List TokenForms) (f : Fact) (parts : Parts) (at : ℕ) : Type 0 where
  pub tree : Tree
  pub place : ℕ
  pub within : WithinParts tree place parts at
  pub direct' : In f (direct s tree place)

-- each fact of a tree stands directly under the edge of a tree within it
mutual
  pub comes_from : (s : List TokenForms) (f : Fact) (d : Tree) (from : ℕ) → In f (tree_facts s d from) → ComesFrom s f d from
  comes_from s f (leaf cat entry picks) from i = record { tree = leaf cat entry picks; place = from; within = whole; direct' = i }
  comes_from s f (inner cat parts) from i = elim (comes_from_parts s f (edge_of (inner cat parts) from) parts from i) [
    | inl j ↦ record { tree = inner cat parts; place = from; within = whole; direct' = j }
    | inr c ↦ record { tree = c.tree; place = c.place; within = inside c.within; direct' = c.direct' }
  ]

  comes_from_parts : (s : List TokenForms) (f : Fact) (m : Edge) (parts : Parts) (at : ℕ) → In f (parts_facts s m parts at) → In f (daughters m parts at) ⊎ ComesFromParts s f parts at
  comes_from_parts s f m no_part at i = In-nil i
  comes_from_parts s f m (empty occ picks rest) at i = elim (comes_from_parts s f m rest at i) [
    | inl j ↦ inl j
    | inr c ↦ inr (record { tree = c.tree; place = c.place; within = skip c.within; direct' = c.direct' })
  ]
  comes_from_parts s f m (daughter occ picks below rest) at i = elim (In-cons_cases i) [
    | inl e ↦ inl (rw e here)
    | inr j ↦ elim (In-append_cases (tree_facts s below at) (parts_facts s m rest (at + width below)) j) [
      | inl k ↦ let c = comes_from s f below at k in inr (record { tree = c.tree; place = c.place; within = first c.within; direct' = c.direct' })
      | inr k ↦ elim (comes_from_parts s f m rest (at + width below) k) [
        | inl l ↦ inl (later l)
        | inr c ↦ inr (record { tree = c.tree; place = c.place; within = then c.within; direct' = c.direct' })
      ]
    ]
  ]

-- and the other way round
daughters_there : (s : List TokenForms) (f : Fact) (m : Edge) (parts : Parts) (at : ℕ) → In f (daughters m parts at) → In f (parts_facts s m parts at)
daughters_there s f m no_part at i = In-nil i
daughters_there s f m (empty occ picks rest) at i = daughters_there s f m rest at i
daughters_there s f m (daughter occ picks below rest) at i = elim (In-cons_cases i) [
  | inl e ↦ rw e here
  | inr j ↦ later (In-append_right (tree_facts s below at) (daughters_there s f m rest (at + width below) j))
]

direct_there : (s : List TokenForms) (f : Fact) (d : Tree) (from : ℕ) → In f (direct s d from) → In f (tree_facts s d from)
direct_there s f (leaf cat entry picks) from i = i
direct_there s f (inner cat parts) from i = daughters_there s f _ parts from i

mutual
  pub facts_within : (s : List TokenForms) (f : Fact) (b : Tree) (p : ℕ) (d : Tree) (from : ℕ) → Within b p d from → In f (direct s b p) → In f (tree_facts s d from)
  facts_within s f b p d from whole i = direct_there s f b p i
  facts_within s f b p (inner cat parts) from (inside w) i = facts_within_parts s f b p (edge_of (inner cat parts) from) parts from w i

  facts_within_parts : (s : List TokenForms) (f : Fact) (b : Tree) (p : ℕ) (m : Edge) (parts : Parts) (at : ℕ) → WithinParts b p parts at → In f (direct s b p) → In f (parts_facts s m parts at)
  facts_within_parts s f b p m no_part at w i = elim w [ ]
  facts_within_parts s f b p m (empty occ picks rest) at (skip w) i = facts_within_parts s f b p m rest at w i
  facts_within_parts s f b p m (daughter occ picks below rest) at (first w) i = later (In-append_left _ (facts_within s f b p below at w i))
  facts_within_parts s f b p m (daughter occ picks below rest) at (then w) i = later (In-append_right (tree_facts s below at) (facts_within_parts s f b p m rest (at + width below) w i))

-- the edge of a tree within is an edge
pub own_edge : (d : Tree) (from : ℕ) → In (edge_of d from) (edges d from)
own_edge (leaf cat entry picks) from = here
own_edge (inner cat parts) from = here

mutual
  pub edge_within : (b : Tree) (p : ℕ) (d : Tree) (from : ℕ) → Within b p d from → In (edge_of b p) (edges d from)
  edge_within b p d from whole = own_edge b p
  edge_within b p (inner cat parts) from (inside w) = later (edge_within_parts b p parts from w)

  pub edge_within_parts : (b : Tree) (p : ℕ) (parts : Parts) (at : ℕ) → WithinParts b p parts at → In (edge_of b p) (parts_edges parts at)
  edge_within_parts b p no_part at w = elim w [ ]
  edge_within_parts b p (empty occ picks rest) at (skip w) = edge_within_parts b p rest at w
  edge_within_parts b p (daughter occ picks below rest) at (first w) = In-append_left _ (edge_within b p below at w)
  edge_within_parts b p (daughter occ picks below rest) at (then w) = In-append_right (edges below at) (edge_within_parts b p rest (at + width below) w)

-- ---- where no edge stands twice, an edge is that of one tree

Once-left : {X : Type 0} (xs ys : List X) → Once (xs ++ ys) → Once xs
Once-left [] ys o = none
Once-left (x ∷ xs) ys (more n o) = more (λ i. n (In-append_left ys i)) (Once-left xs ys o)

Once-right : {X : Type 0} (xs ys : List X) → Once (xs ++ ys) → Once ys
Once-right [] ys o = o
Once-right (x ∷ xs) ys (more n o) = Once-right xs ys o

Once-apart : {X : Type 0} {x : X} (xs ys : List X) → Once (xs ++ ys) → In x xs → In x ys → ⊥
Once-apart [] ys o i j = In-nil i
Once-apart (x ∷ xs) ys (more n o) here j = n (In-append_right xs j)
Once-apart (y ∷ xs) ys (more n o) (later i) j = Once-apart xs ys o i j

once_head : {X : Type 0} {x : X} {xs : List X} → Once (x ∷ xs) → In x xs → ⊥
once_head (more n o) i = n i

once_tail : {X : Type 0} {x : X} {xs : List X} → Once (x ∷ xs) → Once xs
once_tail (more n o) = o

mutual
  pub one_within : (b c d : Tree) (p r from : ℕ) → Once (edges d from) → Within b p d from → Within c r d from → edge_of b p ≡ edge_of c r → (b ≡ c) × (p ≡ r)
  one_within b c d p r from o whole whole e = (refl, refl)
  one_within b c (inner cat parts) p r from o whole (inside w) e = absurd (once_head o (subst (λ (x : Edge). In x (parts_edges parts from)) (sym e) (edge_within_parts c r parts from w)))
  one_within b c (inner cat parts) p r from o (inside v) whole e = absurd (once_head o (subst (λ (x : Edge). In x (parts_edges parts from)) e (edge_within_parts b p parts from v)))
  one_within b c (inner cat parts) p r from o (inside v) (inside w) e = one_within_parts b c parts p r from (once_tail o) v w e

  one_within_parts : (b c : Tree) (parts : Parts) (p r at : ℕ) → Once (parts_edges parts at) → WithinParts b p parts at → WithinParts c r parts at → edge_of b p ≡ edge_of c r → (b ≡ c) × (p ≡ r)
  one_within_parts b c no_part p r at o v w e = elim v [ ]
  one_within_parts b c (empty occ picks rest) p r at o (skip v) (skip w) e = one_within_parts b c rest p r at o v w e
  one_within_parts b c (daughter occ picks below rest) p r at o (first v) (first w) e = one_within b c below p r at (Once-left (edges below at) _ o) v w e
  one_within_parts b c (daughter occ picks below rest) p r at o (first v) (then w) e =
      absurd (Once-apart (edges below at) _ o (edge_within b p below at v) (subst (λ (x : Edge). In x (parts_edges rest (at + width below))) (sym e) (edge_within_parts c r rest (at + width below) w)))
  one_within_parts b c (daughter occ picks below rest) p r at o (then v) (first w) e =
      absurd (Once-apart (edges below at) _ o (edge_within c r below at w) (subst (λ (x : Edge). In x (parts_edges rest (at + width below))) e (edge_within_parts b p rest (at + width below) v)))
  one_within_parts b c (daughter occ picks below rest) p r at o (then v) (then w) e = one_within_parts b c rest p r (at + width below) (Once-right (edges below at) _ o) v w e

-- ---- what stands directly under an edge is told to be under it

under_direct_parts : (f : Fact) (m : Edge) (parts : Parts) (at : ℕ) (x : Edge) → In f (daughters m parts at) → is_under x (branch_of f.args) ≡ same_edge m x
under_direct_parts f m no_part at x i = In-nil i
under_direct_parts f m (empty occ picks rest) at x i = under_direct_parts f m rest at x i
under_direct_parts f m (daughter occ picks below rest) at x i = elim (In-cons_cases i) [
  | inl e ↦ rw e refl
  | inr j ↦ under_direct_parts f m rest (at + width below) x j
]

under_word : (f : Fact) (t : Option TokenForms) (m x : Edge) → In f (word_facts t m) → is_under x (branch_of f.args) ≡ same_edge m x
under_word f None m x i = In-nil i
under_word f (Some t) m x i = rw (In-one i) refl

pub under_direct : (s : List TokenForms) (f : Fact) (b : Tree) (p : ℕ) (x : Edge) → In f (direct s b p) → is_under x (branch_of f.args) ≡ same_edge (edge_of b p) x
under_direct s f (leaf cat entry picks) p x i = under_word f (slice_get s p) _ x i
under_direct s f (inner cat parts) p x i = under_direct_parts f _ parts p x i
