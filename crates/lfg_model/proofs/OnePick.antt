-- A selection picks one derivation at most.
use Rattle.std.proofs.Common.{◌≡◌, ℕ, ◌+◌, List, ap, refl, sym, ◌∙◌, subst, Some, None}
use Rattle.lfg_terms.specs.declared.node.Edge.{Edge}
use Rattle.lfg_terms.specs.declared.literal.Site.TheVariants as site
use Rattle.lfg_terms.specs.declared.grammar.Item.{Item}
use Rattle.lfg_terms.specs.declared.grammar.Rule.{Rule}
use Rattle.lfg_terms.specs.declared.grammar.Grammar.{Grammar}
use Rattle.lfg_terms.specs.declared.tree.TokenForms.{TokenForms}
use Rattle.lfg_model.specs.declared.point.Next.{Next}
use Rattle.lfg_model.specs.declared.point.Next.TheVariants as next
use Rattle.lfg_model.specs.Lists.{In, here, later}
use Rattle.lfg_model.specs.Terms.{Name, Tree, leaf, inner, Parts, no_part, empty, daughter}
use Rattle.lfg_model.specs.Derive.{rule_of, item_at, IsItem, edge, Derives, Covers}
use Rattle.lfg_model.specs.Trees.{width, edge_of}
use Rattle.lfg_model.specs.Spots.{point, Spot, spots_of, parts_spots}
use Rattle.lfg_model.specs.Picked.{Selection, IsTaken, IsApart, OneIsPicked}
use Rattle.lfg_model.proofs.ListLaws.{In-append_left, In-append_right}
use Rattle.lfg_model.proofs.OneTree.{same_some}
use Rattle.lfg_model.proofs.Spans.{tree_end, tree_edge}

pub same_item : (o k n m : ℕ) → next.Item o n ≡ next.Item k m → (o ≡ k) × (n ≡ m)
same_item o k n m e = (cc, cc)

-- an item with a category is no `e`
pub item_kinds : (rule : Rule) (occ k : ℕ) (cat : Name) (picks picks' : List ℕ) → occ ≡ k → IsItem rule occ None picks → IsItem rule k (Some cat) picks' → ⊥
item_kinds rule occ k cat picks picks' same a b =
    let there : item_at rule.items occ ≡ Some b.item = rw same b.listed in
    let item : a.item ≡ b.item = same_some _ _ (sym a.listed ∙ there) in
    let never : None ≡ Some cat = sym a.category ∙ ap (λ (z : Item). z.cat) item ∙ b.category in cc

-- two items with one number have one category
pub item_cats : (rule : Rule) (occ k : ℕ) (cat cat' : Name) (picks picks' : List ℕ) → occ ≡ k → IsItem rule occ (Some cat) picks → IsItem rule k (Some cat') picks' → cat ≡ cat'
item_cats rule occ k cat cat' picks picks' same a b =
    let there : item_at rule.items occ ≡ Some b.item = rw same b.listed in
    let item : a.item ≡ b.item = same_some _ _ (sym a.listed ∙ there) in
    same_some _ _ (sym a.category ∙ ap (λ (z : Item). z.cat) item ∙ b.category)

module _ (g : Grammar) (s : List TokenForms) (c : Selection) (apart : IsApart g) where
  -- all that the list has is selected
  abbrev Takes : List Spot → Type 0
  Takes xs = (x : Spot) → In x xs → IsTaken c x

  -- the steps that two lists of parts begin with are one
  abbrev Steps : Edge → ℕ → ℕ → Next → Next → Type 0
  Steps e q at m n = (m ≡ c.next_of (point e q at)) × (n ≡ c.next_of (point e q at))

  one_leaf : (cat cat' : Name) (k k' : ℕ) (picks picks' : List ℕ) (e : Edge) → Derives g s (leaf cat k picks) e → Derives g s (leaf cat' k' picks') e
      → Takes (spots_of (leaf cat k picks) e.from) → Takes (spots_of (leaf cat' k' picks') e.from) → leaf cat k picks ≡ leaf cat' k' picks'
  one_leaf cat cat' k k' picks picks' e h h' t t' =
      let same = tree_edge g s (leaf cat k picks) e h in
      let same' = tree_edge g s (leaf cat' k' picks') e h' in
      let to_cat : cat ≡ cat' = ap (λ z. z.cat) (same ∙ sym same') in
      let to_entry : k ≡ k' = t _ (later here) ∙ ap c.entry_of (same ∙ sym same') ∙ sym (t' _ (later here)) in
      let sites : site.Entry (edge_of (leaf cat k picks) e.from) k ≡ site.Entry (edge_of (leaf cat' k' picks') e.from) k' = (λ i. site.Entry ((same ∙ sym same') i) (to_entry i)) in
      let to_picks : picks ≡ picks' = t _ (later (later here)) ∙ ap c.picks_of sites ∙ sym (t' _ (later (later here))) in
      λ i. leaf (to_cat i) (to_entry i) (to_picks i)

  mutual
    one : (d d' : Tree) (e : Edge) → Derives g s d e → Derives g s d' e → Takes (spots_of d e.from) → Takes (spots_of d' e.from) → d ≡ d'
    one (leaf cat k picks) (leaf cat' k' picks') e h h' t t' = one_leaf cat cat' k k' picks picks' e h h' t t'
    one (leaf cat k picks) (inner cat' parts') e h h' t t' = absurd (apart cat' h'.1.0 k h.1.lex h'.1.1 h.1.listed (h.1.category ∙ (λ i. (sym h.0 i).cat) ∙ h'.0))
    one (inner cat parts) (leaf cat' k' picks') e h h' t t' = absurd (apart cat h.1.0 k' h'.1.lex h.1.1 h'.1.listed (h'.1.category ∙ (λ i. (sym h'.0 i).cat) ∙ h.0))
    one (inner cat parts) (inner cat' parts') e h h' t t' =
        let to_cat : cat ≡ cat' = sym h.0 ∙ h'.0 in
        let rule : h'.1.0 ≡ h.1.0 = same_some _ _ (sym h'.1.1 ∙ ap (rule_of g) (sym to_cat) ∙ h.1.1) in
        let P : Rule → Type 0 = λ r. Covers g s r parts' e.from e.to in
        let Q : Edge → Type 0 = λ z. Takes (parts_spots z 0 parts e.from) in
        let R : Edge → Type 0 = λ z. Takes (parts_spots z 0 parts' e.from) in
        let a = subst Q (tree_edge g s (inner cat parts) e h) (λ x i. t x (later i)) in
        let b = subst R (tree_edge g s (inner cat' parts') e h') (λ x i. t' x (later i)) in
        let to_parts = all parts parts' e h.1.0 0 e.from h.1.3 (subst P rule h'.1.3) a b in
        λ i. inner (to_cat i) (to_parts i)

    all : (ps qs : Parts) (e : Edge) (rule : Rule) (q at : ℕ) → Covers g s rule ps at e.to → Covers g s rule qs at e.to → Takes (parts_spots e q ps at) → Takes (parts_spots e q qs at) → ps ≡ qs
    all no_part no_part e rule q at h h' t t' = refl
    all no_part (empty o k qs) e rule q at h h' t t' = let never = t _ here ∙ sym (t' _ here) in absurd (cc)
    all no_part (daughter o k d qs) e rule q at h h' t t' = let never = t _ here ∙ sym (t' _ here) in absurd (cc)
    all (empty o k ps) no_part e rule q at h h' t t' = let never = t _ here ∙ sym (t' _ here) in absurd (cc)
    all (daughter o k d ps) no_part e rule q at h h' t t' = let never = t _ here ∙ sym (t' _ here) in absurd (cc)
    all (empty o k ps) (empty o' k' qs) e rule q at h h' t t' =
        let f = same_item o o' at at (t _ here ∙ sym (t' _ here)) in
        let to_picks : k ≡ k' = t _ (later here) ∙ ap (λ n. c.picks_of (site.Item e n at at)) f.0 ∙ sym (t' _ (later here)) in
        let P : ℕ → Type 0 = λ n. Takes (parts_spots e n qs at) in
        let rest = all ps qs e rule o at h.1 h'.1 (λ x i. t x (later (later i))) (subst P (sym f.0) (λ x i. t' x (later (later i)))) in
        λ i. empty (f.0 i) (to_picks i) (rest i)
    all (empty o k ps) (daughter o' k' d' qs) e rule q at h h' t t' =
        let f = same_item o o' at (at + width d') (t _ here ∙ sym (t' _ here)) in
        absurd (item_kinds rule o o' h'.0 k k' f.0 h.0 h'.2)
    all (daughter o k d ps) (empty o' k' qs) e rule q at h h' t t' =
        let f = same_item o o' (at + width d) at (t _ here ∙ sym (t' _ here)) in
        absurd (item_kinds rule o' o h.0 k' k (sym f.0) h'.0 h.2)
    all (daughter o k d ps) (daughter o' k' d' qs) e rule q at h h' t t' =
        let f = same_item o o' (at + width d) (at + width d') (t _ here ∙ sym (t' _ here)) in
        let w : at + width d ≡ h.1 = tree_end g s d _ h.3 in
        let w' : at + width d' ≡ h'.1 = tree_end g s d' _ h'.3 in
        let to_end : h'.1 ≡ h.1 = sym w' ∙ sym f.1 ∙ w in
        let to_cat : h'.0 ≡ h.0 = sym (item_cats rule o o' h.0 h'.0 k k' f.0 h.2 h'.2) in
        let to_picks : k ≡ k' = t _ (later here) ∙ (λ i. c.picks_of (site.Item e (f.0 i) at (f.1 i))) ∙ sym (t' _ (later here)) in
        let D : Edge → Type 0 = λ z. Derives g s d' z in
        let below = one d d' (edge h.0 at h.1) h.3 (subst D (λ i. edge (to_cat i) at (to_end i)) h'.3)
        (λ x i. t x (later (later (In-append_left _ i)))) (λ x i. t' x (later (later (In-append_left _ i)))) in
        let P : ℕ → Type 0 = λ n. Takes (parts_spots e o ps n) in
        let Q : ℕ → ℕ → Type 0 = λ m n. Takes (parts_spots e m qs n) in
        let C : ℕ → Type 0 = λ n. Covers g s rule qs n e.to in
        let a = subst P w (λ x i. t x (later (later (In-append_right (spots_of d at) i)))) in
        let b = subst (λ (n : ℕ). Q o n) (w' ∙ to_end) (subst (λ (m : ℕ). Q m (at + width d')) (sym f.0) (λ x i. t' x (later (later (In-append_right (spots_of d' at) i))))) in
        let rest = all ps qs e rule o h.1 h.4 (subst C to_end h'.4) a b in
        λ i. daughter (f.0 i) (to_picks i) (below i) (rest i)

pub one_is_picked : OneIsPicked
one_is_picked g s c d d' apart p p' = one g s c apart d d' _ p.whole.derives p'.whole.derives p.takes p'.takes
