-- Each edge of a derivation has something under it, and each but the root is a daughter.
use Rattle.std.proofs.Common.{◌≡◌, ℕ, ◌+◌, ◌<◌, true, List, [], ◌∷◌, refl, sym, ◌∙◌, ap, subst, arith, inl, inr, ◌⊎◌, Option, Some, None}
use Rattle.std.specs.Prelude.{slice_get}
use Rattle.std.proofs.lemmas.Bool.{false≢true}
use Rattle.std.proofs.lemmas.Cmp.{eq_by_cmp_equiv}
use Rattle.lfg_terms.specs.Order.{edge_cmp}
use Rattle.lfg_terms.specs.OrderLaws.{edge_cmp_total}
use Rattle.lfg_terms.proofs.Ties.{edge_ties}
use Rattle.lfg_terms.specs.declared.node.Edge.{Edge}
use Rattle.lfg_terms.specs.declared.node.Fact.{Fact}
use Rattle.lfg_terms.specs.declared.grammar.Rule.{Rule}
use Rattle.lfg_terms.specs.declared.grammar.Grammar.{Grammar}
use Rattle.lfg_terms.specs.declared.tree.TokenForms.{TokenForms}
use Rattle.lfg_model.specs.Lists.{In, here, later}
use Rattle.lfg_model.specs.Terms.{Tree, leaf, inner, Parts, no_part, empty, daughter}
use Rattle.lfg_model.specs.Derive.{edge, Derives, Covers}
use Rattle.lfg_model.specs.Trees.{width, edge_of, under, word, word_facts, tree_facts, parts_facts}
use Rattle.lfg_model.specs.PairTexts.{same_edge, branch_of, is_under, is_to}
use Rattle.lfg_model.specs.Brackets.{edges, parts_edges}
use Rattle.lfg_model.proofs.ListLaws.{In-append_left, In-append_right, In-append_cases, In-cons_cases, In-nil, In-one}
use Rattle.lfg_model.proofs.Ascending.{tied}
use Rattle.lfg_model.proofs.DeriveLaws.{Derives-width, Covers-width}
use Rattle.lfg_model.proofs.Within.{own_edge}

pub same_edge-itself : (x : Edge) → same_edge x x ≡ true
same_edge-itself = (eq_by_cmp_equiv edge_cmp_total).refl

pub same_edge_told : (x y : Edge) → same_edge x y ≡ true → x ≡ y
same_edge_told = tied edge_cmp edge_ties

same_edge-of : (x y : Edge) → x ≡ y → same_edge x y ≡ true
same_edge-of x y e = ap (same_edge x) (sym e) ∙ same_edge-itself x

-- a fact that stands under the edge
pub record HasUnder (x : Edge) (facts : List Fact) : Type 0 where
  pub fact : Fact
  pub listed : In fact facts
  pub below : is_under x (branch_of fact.args) ≡ true

-- a fact that has the edge as a daughter
pub record IsDaughter (x : Edge) (facts : List Fact) : Type 0 where
  pub fact : Fact
  pub listed : In fact facts
  pub below : is_to x (branch_of fact.args) ≡ true

more_under : {x : Edge} {fs gs : List Fact} → ((f : Fact) → In f fs → In f gs) → HasUnder x fs → HasUnder x gs
more_under wider h = record { fact = h.fact; listed = wider h.fact h.listed; below = h.below }

more_daughter : {x : Edge} {fs gs : List Fact} → ((f : Fact) → In f fs → In f gs) → IsDaughter x fs → IsDaughter x gs
more_daughter wider h = record { fact = h.fact; listed = wider h.fact h.listed; below = h.below }

module _ (g : Grammar) (s : List TokenForms) where
  word_there : (t : Option TokenForms) (token : TokenForms) (m : Edge) → t ≡ Some token → HasUnder m (word_facts t m)
  word_there t token m e = rw e (record { fact = word m token.text; listed = here; below = same_edge-itself m })

  -- parts that cover something have a daughter
  part_there : (rule : Rule) (m : Edge) (parts : Parts) (at to : ℕ) → Covers g s rule parts at to → at < to → HasUnder m (parts_facts s m parts at)
  part_there rule m no_part at to c l = absurd (omega (arith, c))
  part_there rule m (empty occ picks rest) at to c l = part_there rule m rest at to c.1 l
  part_there rule m (daughter occ picks below rest) at to c l = record { fact = under (edge_of below at) m; listed = here; below = same_edge-itself m }

  mutual
    pub all_have_under : (d : Tree) (e : Edge) → Derives g s d e → ((x : Edge) → In x (edges d e.from) → x.from < x.to) → (x : Edge) → In x (edges d e.from) → HasUnder x (tree_facts s d e.from)
    all_have_under (leaf cat entry picks) e h pos x i = rw (In-one i) (word_there (slice_get s e.from) h.1.token (edge cat e.from (e.from + 1)) h.1.read)
    all_have_under (inner cat parts) e h pos x i =
        let w = Covers-width g s h.1.0 parts e.from e.to h.1.3 in
        let l = pos (edge_of (inner cat parts) e.from) here in
        elim (In-cons_cases i) [
          | inl q ↦ rw q (part_there h.1.0 (edge_of (inner cat parts) e.from) parts e.from e.to h.1.3 (omega (arith, w, l)))
          | inr j ↦ parts_have_under h.1.0 (edge_of (inner cat parts) e.from) parts e.from e.to h.1.3 (λ y k. pos y (later k)) x j
        ]

    parts_have_under : (rule : Rule) (m : Edge) (parts : Parts) (at to : ℕ) → Covers g s rule parts at to → ((x : Edge) → In x (parts_edges parts at) → x.from < x.to)
        → (x : Edge) → In x (parts_edges parts at) → HasUnder x (parts_facts s m parts at)
    parts_have_under rule m no_part at to c pos x i = In-nil i
    parts_have_under rule m (empty occ picks rest) at to c pos x i = parts_have_under rule m rest at to c.1 pos x i
    parts_have_under rule m (daughter occ picks below rest) at to c pos x i =
        let mid : c.1 ≡ at + width below = Derives-width g s below _ c.3 in
        let there : Covers g s rule rest (at + width below) to = subst (λ (n : ℕ). Covers g s rule rest n to) mid c.4 in
        elim (In-append_cases (edges below at) (parts_edges rest (at + width below)) i) [
          | inl j ↦ more_under (λ f k. later (In-append_left _ k)) (all_have_under below _ c.3 (λ y k. pos y (In-append_left _ k)) x j)
          | inr j ↦ more_under (λ f k. later (In-append_right (tree_facts s below at) k)) (parts_have_under rule m rest (at + width below) to there (λ y k. pos y (In-append_right (edges below at) k)) x j)
        ]

-- ---- each edge but the root is a daughter

mutual
  pub root_or_daughter : (s : List TokenForms) (d : Tree) (from : ℕ) (x : Edge) → In x (edges d from) → (x ≡ edge_of d from) ⊎ IsDaughter x (tree_facts s d from)
  root_or_daughter s (leaf cat entry picks) from x i = inl (In-one i)
  root_or_daughter s (inner cat parts) from x i = elim (In-cons_cases i) [ inl e ↦ inl e | inr j ↦ inr (parts_daughter s (edge_of (inner cat parts) from) parts from x j) ]

  parts_daughter : (s : List TokenForms) (m : Edge) (parts : Parts) (at : ℕ) (x : Edge) → In x (parts_edges parts at) → IsDaughter x (parts_facts s m parts at)
  parts_daughter s m no_part at x i = In-nil i
  parts_daughter s m (empty occ picks rest) at x i = parts_daughter s m rest at x i
  parts_daughter s m (daughter occ picks below rest) at x i = elim (In-append_cases (edges below at) (parts_edges rest (at + width below)) i) [
    | inl j ↦ elim (root_or_daughter s below at x j) [
      | inl e ↦ record { fact = under (edge_of below at) m; listed = here; below = same_edge-of (edge_of below at) x (sym e) }
      | inr r ↦ more_daughter (λ f k. later (In-append_left _ k)) r
    ]
    | inr j ↦ more_daughter (λ f k. later (In-append_right (tree_facts s below at) k)) (parts_daughter s m rest (at + width below) x j)
  ]

-- ---- and a daughter is an edge other than the root

abbrev pub lower_edges : Tree → ℕ → List Edge
lower_edges (leaf cat entry picks) from = []
lower_edges (inner cat parts) from = parts_edges parts from

pub edges-lower : (d : Tree) (from : ℕ) → edges d from ≡ edge_of d from ∷ lower_edges d from
edges-lower (leaf cat entry picks) from = refl
edges-lower (inner cat parts) from = refl

no_word : (f : Fact) (t : Option TokenForms) (m x : Edge) → In f (word_facts t m) → is_to x (branch_of f.args) ≡ true → ⊥
no_word f None m x i t = In-nil i
no_word f (Some token) m x i t = false≢true (ap (λ h. is_to x (branch_of h.args)) (sym (In-one i)) ∙ t)

mutual
  pub daughter_lower : (s : List TokenForms) (d : Tree) (from : ℕ) (f : Fact) (x : Edge) → In f (tree_facts s d from) → is_to x (branch_of f.args) ≡ true → In x (lower_edges d from)
  daughter_lower s (leaf cat entry picks) from f x i t = absurd (no_word f (slice_get s from) _ x i t)
  daughter_lower s (inner cat parts) from f x i t = parts_daughter_lower s (edge_of (inner cat parts) from) parts from f x i t

  parts_daughter_lower : (s : List TokenForms) (m : Edge) (parts : Parts) (at : ℕ) (f : Fact) (x : Edge) → In f (parts_facts s m parts at) → is_to x (branch_of f.args) ≡ true → In x (parts_edges parts at)
  parts_daughter_lower s m no_part at f x i t = In-nil i
  parts_daughter_lower s m (empty occ picks rest) at f x i t = parts_daughter_lower s m rest at f x i t
  parts_daughter_lower s m (daughter occ picks below rest) at f x i t = elim (In-cons_cases i) [
    | inl e ↦
        let same : edge_of below at ≡ x = same_edge_told (edge_of below at) x (ap (λ h. is_to x (branch_of h.args)) (sym e) ∙ t) in
        In-append_left _ (subst (λ (y : Edge). In y (edges below at)) same (own_edge below at))
    | inr j ↦ elim (In-append_cases (tree_facts s below at) (parts_facts s m rest (at + width below)) j) [
      | inl k ↦ In-append_left _ (subst (λ (l : List Edge). In x l) (sym (edges-lower below at)) (later (daughter_lower s below at f x k t)))
      | inr k ↦ In-append_right (edges below at) (parts_daughter_lower s m rest (at + width below) f x k t)
    ]
  ]
