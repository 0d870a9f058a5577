-- The text of a derivation's tree facts is that of the tree.
use Rattle.std.proofs.Common.{◌≡◌, ℕ, zero, suc, ◌+◌, ◌<◌, ◌≤◌, max, Bool, true, false, not, List, [], ◌∷◌, ◌++◌, length, map, filter, refl, sym, ◌∙◌, ap, subst, arith, inl, inr, ◌⊎◌, Option, Some, None, length-append}
use Rattle.std.specs.Prelude.{slice_get, codes}
use Rattle.std.specs.List.{flat_map, list_any, AllByRecursion}
use Rattle.std.specs.List.Sorted.{IsStrictlySortedBy}
use Rattle.std.specs.declared.cmp.Ordering.TheVariants.{Less}
use Rattle.std.proofs.lemmas.Bool.{false≢true}
use Rattle.std.proofs.lemmas.List.{append-nil}
use Rattle.std.proofs.lemmas.List.Kept.{IsStrictlySortedBy-filter}
use Rattle.lfg_terms.specs.Order.{fact_cmp}
use Rattle.lfg_terms.specs.OrderLaws.{fact_cmp_total}
use Rattle.lfg_terms.specs.Texts.{name_text}
use Rattle.lfg_terms.specs.declared.node.Edge.{Edge}
use Rattle.lfg_terms.specs.declared.node.Fact.{Fact}
use Rattle.lfg_terms.specs.declared.tree.TokenForms.{TokenForms}
use Rattle.lfg_model.specs.Lists.{In, here, later, Once, Lists}
use Rattle.lfg_model.specs.Terms.{Tree, leaf, inner, Parts, no_part, empty, daughter}
use Rattle.lfg_model.specs.Trees.{width, edge_of, under, word_facts, tree_facts}
use Rattle.lfg_model.specs.PairTexts.{Branch, to_daughter, to_word, no_branch, branch_of, is_under, branches_under, branch_text, text_below, mothers, is_to, root_of, root_text, tree_text}
use Rattle.lfg_model.specs.Brackets.{edges, parts_edges, token_text, bracketed, parts_text, TreeTextIsBracketed}
use Rattle.lfg_model.proofs.ListLaws.{In-append_left, In-append_right, In-flat_map, In_from_flat_map, In-nil, In-one, length-le_from_Once}
use Rattle.lfg_model.proofs.Ascending.{same_members, once_from_total}
use Rattle.lfg_model.proofs.RoundLaws.{any_from, from_any}
use Rattle.lfg_model.proofs.TreeOrder.{under_before, starts_before}
use Rattle.lfg_model.proofs.Filters.{In_filter, In-filter, filter-map, find_only}
use Rattle.lfg_model.proofs.Within.{daughters, direct, Within, WithinParts, whole, inside, skip, first, then, comes_from, facts_within, edge_within, own_edge, one_within, under_direct}
use Rattle.lfg_model.proofs.Descent.{same_edge-itself, same_edge_told, HasUnder, all_have_under, root_or_daughter, lower_edges, edges-lower, daughter_lower}

-- ---- the facts under an edge ascend

behind : (x m : Edge) (parts : Parts) (at : ℕ) → x.from < at → AllByRecursion (λ f. fact_cmp (under x m) f ≡ Less) (daughters m parts at)
behind x m no_part at l = tt
behind x m (empty occ picks rest) at l = behind x m rest at l
behind x m (daughter occ picks below rest) at l =
    (under_before x m (edge_of below at) m (starts_before x (edge_of below at) l), behind x m rest (at + width below) (omega arith))

parts_ascend : (m : Edge) (parts : Parts) (at : ℕ) → ((x : Edge) → In x (parts_edges parts at) → x.from < x.to) → IsStrictlySortedBy fact_cmp (daughters m parts at)
unfolding IsStrictlySortedBy
parts_ascend m no_part at pos = tt
parts_ascend m (empty occ picks rest) at pos = parts_ascend m rest at pos
parts_ascend m (daughter occ picks below rest) at pos =
    let l = pos (edge_of below at) (In-append_left _ (own_edge below at)) in
    (behind (edge_of below at) m rest (at + width below) l, parts_ascend m rest (at + width below) (λ x i. pos x (In-append_right (edges below at) i)))

word_ascends : (t : Option TokenForms) (m : Edge) → IsStrictlySortedBy fact_cmp (word_facts t m)
unfolding IsStrictlySortedBy
word_ascends None m = tt
word_ascends (Some token) m = (tt, tt)

direct_ascends : (s : List TokenForms) (d : Tree) (from : ℕ) → ((x : Edge) → In x (edges d from) → x.from < x.to) → IsStrictlySortedBy fact_cmp (direct s d from)
direct_ascends s (leaf cat entry picks) from pos = word_ascends (slice_get s from) _
direct_ascends s (inner cat parts) from pos = parts_ascend _ parts from (λ x i. pos x (later i))

-- ---- how deep a tree is

abbrev mutual
  depth : Tree → ℕ
  depth (leaf cat entry picks) = 1
  depth (inner cat parts) = suc (parts_depth parts)

  parts_depth : Parts → ℕ
  parts_depth no_part = 0
  parts_depth (empty occ picks rest) = parts_depth rest
  parts_depth (daughter occ picks below rest) = max (depth below) (parts_depth rest)

mutual
  depth-edges : (d : Tree) (from : ℕ) → depth d ≤ length (edges d from)
  depth-edges (leaf cat entry picks) from = omega arith
  depth-edges (inner cat parts) from = let l = parts_depth-edges parts from in omega arith

  parts_depth-edges : (parts : Parts) (at : ℕ) → parts_depth parts ≤ length (parts_edges parts at)
  parts_depth-edges no_part at = omega arith
  parts_depth-edges (empty occ picks rest) at = parts_depth-edges rest at
  parts_depth-edges (daughter occ picks below rest) at =
      let a = depth-edges below at in
      let b = parts_depth-edges rest (at + width below) in
      omega (arith, length-append (edges below at) (parts_edges rest (at + width below)))

-- ---- edges within

mutual
  edges_within : (b : Tree) (p : ℕ) (d : Tree) (from : ℕ) → Within b p d from → (x : Edge) → In x (edges b p) → In x (edges d from)
  edges_within b p d from whole x i = i
  edges_within b p (inner cat parts) from (inside w) x i = later (edges_within_parts b p parts from w x i)

  edges_within_parts : (b : Tree) (p : ℕ) (parts : Parts) (at : ℕ) → WithinParts b p parts at → (x : Edge) → In x (edges b p) → In x (parts_edges parts at)
  edges_within_parts b p no_part at w x i = elim w [ ]
  edges_within_parts b p (empty occ picks rest) at (skip w) x i = edges_within_parts b p rest at w x i
  edges_within_parts b p (daughter occ picks below rest) at (first w) x i = In-append_left _ (edges_within b p below at w x i)
  edges_within_parts b p (daughter occ picks below rest) at (then w) x i = In-append_right (edges below at) (edges_within_parts b p rest (at + width below) w x i)

-- within what is within
mutual
  within_within : (c : Tree) (r : ℕ) (b : Tree) (p : ℕ) (d : Tree) (from : ℕ) → Within c r b p → Within b p d from → Within c r d from
  within_within c r b p d from v whole = v
  within_within c r b p (inner cat parts) from v (inside w) = inside (within_within_parts c r b p parts from v w)

  within_within_parts : (c : Tree) (r : ℕ) (b : Tree) (p : ℕ) (parts : Parts) (at : ℕ) → Within c r b p → WithinParts b p parts at → WithinParts c r parts at
  within_within_parts c r b p no_part at v w = elim w [ ]
  within_within_parts c r b p (empty occ picks rest) at v (skip w) = skip (within_within_parts c r b p rest at v w)
  within_within_parts c r b p (daughter occ picks below rest) at v (first w) = first (within_within c r b p below at v w)
  within_within_parts c r b p (daughter occ picks below rest) at v (then w) = then (within_within_parts c r b p rest (at + width below) v w)

mother_of : (x : Edge) (b : Branch) → is_under x b ≡ true → In x (mothers b)
mother_of x (to_daughter d m) t = rw (same_edge_told m x t) here
mother_of x (to_word w m) t = rw (same_edge_told m x t) here
mother_of x no_branch t = absurd (false≢true t)

is_mother : (x : Edge) (b : Branch) → In x (mothers b) → is_under x b ≡ true
is_mother x (to_daughter d m) i = rw (In-one i) (same_edge-itself m)
is_mother x (to_word w m) i = rw (In-one i) (same_edge-itself m)
is_mother x no_branch i = In-nil i

length-mothers : (b : Branch) → length (mothers b) ≤ 1
length-mothers (to_daughter d m) = omega arith
length-mothers (to_word w m) = omega arith
length-mothers no_branch = omega arith

abbrev branch : Fact → Branch
branch f = branch_of f.args

abbrev all_mothers : List Fact → List Edge
all_mothers facts = flat_map (λ f. mothers (branch_of f.args)) facts

length-all_mothers : (facts : List Fact) → length (all_mothers facts) ≤ length facts
length-all_mothers [] = omega arith
length-all_mothers (f ∷ fs) =
    let l = length-all_mothers fs in
    let k = length-mothers (branch f) in
    omega (arith, length-append (mothers (branch f)) (all_mothers fs))

module _ (s : List TokenForms) (d : Tree) (from : ℕ) (facts : List Fact) (once : Once (edges d from)) (pos : (x : Edge) → In x (edges d from) → x.from < x.to)
    (set : Lists fact_cmp (λ f. In f (tree_facts s d from)) facts) where
  -- what stands under an edge of the tree
  under_is : (b : Tree) (p : ℕ) → Within b p d from → filter (λ f. is_under (edge_of b p) (branch f)) facts ≡ direct s b p
  under_is b p w =
      same_members fact_cmp (once_from_total fact_cmp_total) (filter (λ f. is_under (edge_of b p) (branch f)) facts) (direct s b p)
      (IsStrictlySortedBy-filter fact_cmp (λ f. is_under (edge_of b p) (branch f)) facts set.ascends)
      (direct_ascends s b p (λ x i. pos x (edges_within b p d from w x i))) forth back
    where
      forth : (f : Fact) → In f (filter (λ f. is_under (edge_of b p) (branch f)) facts) → In f (direct s b p)
      forth f i =
          let k = In_filter (λ f. is_under (edge_of b p) (branch f)) facts f i in
          let c = comes_from s f d from ((set.exact f).0 k.0) in
          let same : edge_of c.tree c.place ≡ edge_of b p = same_edge_told _ _ (sym (under_direct s f c.tree c.place (edge_of b p) c.direct') ∙ k.1) in
          let e = one_within c.tree b d c.place p from once c.within w same in
          subst (λ (t : Tree). In f (direct s t p)) e.0 (subst (λ (n : ℕ). In f (direct s c.tree n)) e.1 c.direct')

      back : (f : Fact) → In f (direct s b p) → In f (filter (λ f. is_under (edge_of b p) (branch f)) facts)
      back f i =
          In-filter (λ f. is_under (edge_of b p) (branch f)) facts f ((set.exact f).1 (facts_within s f b p d from w i))
          (under_direct s f b p (edge_of b p) i ∙ same_edge-itself (edge_of b p))

  branches_are : (b : Tree) (p : ℕ) → Within b p d from → branches_under facts (edge_of b p) ≡ map branch (direct s b p)
  branches_are b p w = filter-map branch (is_under (edge_of b p)) facts ∙ ap (map branch) (under_is b p w)

  of_word : (deeper : Edge → List ℕ) (t : Option TokenForms) (m : Edge) → flat_map (branch_text deeper) (map branch (word_facts t m)) ≡ token_text t
  of_word deeper None m = refl
  of_word deeper (Some token) m = append-nil (32 ∷ name_text token.text)

  mutual
    text_at : (b : Tree) (p n : ℕ) → Within b p d from → depth b ≤ n → text_below n facts (edge_of b p) ≡ bracketed s b p
    text_at (leaf cat entry picks) p zero w l = absurd (omega arith)
    text_at (leaf cat entry picks) p (suc n) w l =
        ap (λ t. codes "[" ++ name_text cat ++ t ++ codes "]")
        (ap (flat_map (branch_text (text_below n facts))) (branches_are (leaf cat entry picks) p w) ∙ of_word (text_below n facts) (slice_get s p) _)
    text_at (inner cat parts) p zero w l = absurd (omega arith)
    text_at (inner cat parts) p (suc n) w l =
        ap (λ t. codes "[" ++ name_text cat ++ t ++ codes "]")
        (ap (flat_map (branch_text (text_below n facts))) (branches_are (inner cat parts) p w)
        ∙ parts_at (edge_of (inner cat parts) p) parts p n (λ b r v. within_within b r (inner cat parts) p d from (inside v) w) (omega arith))

    parts_at : (m : Edge) (parts : Parts) (at n : ℕ) → ((b : Tree) (r : ℕ) → WithinParts b r parts at → Within b r d from) → parts_depth parts ≤ n
        → flat_map (branch_text (text_below n facts)) (map branch (daughters m parts at)) ≡ parts_text s parts at
    parts_at m no_part at n sub l = refl
    parts_at m (empty occ picks rest) at n sub l = parts_at m rest at n (λ b r v. sub b r (skip v)) l
    parts_at m (daughter occ picks below rest) at n sub l =
        let a = text_at below at n (sub below at (first whole)) (omega arith) in
        let b = parts_at m rest (at + width below) n (λ b r v. sub b r (then v)) (omega arith) in
        λ i. (32 ∷ a i) ++ b i

  -- each mother is an edge of the tree
  mothers_are : (x : Edge) → In x (all_mothers facts) → In x (edges d from)
  mothers_are x i =
      let f = In_from_flat_map (λ f. mothers (branch_of f.args)) facts i in
      let c = comes_from s f.0 d from ((set.exact f.0).0 f.1) in
      let same : edge_of c.tree c.place ≡ x = same_edge_told _ x (sym (under_direct s f.0 c.tree c.place x c.direct') ∙ is_mother x (branch f.0) f.2) in
      subst (λ (y : Edge). In y (edges d from)) same (edge_within c.tree c.place d from c.within)

  abbrev is_root : Edge → Bool
  is_root e = not (list_any (λ f. is_to e (branch_of f.args)) facts)

  lower_once : Once (edge_of d from ∷ lower_edges d from) → In (edge_of d from) (lower_edges d from) → ⊥
  lower_once (Once.more n o) i = n i

  root_passes : is_root (edge_of d from) ≡ true
  root_passes = go (list_any (λ f. is_to (edge_of d from) (branch_of f.args)) facts) refl
    where
      go : (b : Bool) → list_any (λ f. is_to (edge_of d from) (branch_of f.args)) facts ≡ b → not b ≡ true
      go false e = refl
      go true e =
          let f = from_any (λ f. is_to (edge_of d from) (branch_of f.args)) facts e in
          let i = daughter_lower s d from f.0 (edge_of d from) ((set.exact f.0).0 f.1) f.2 in
          absurd (lower_once (subst (λ (l : List Edge). Once l) (edges-lower d from) once) i)

  other_fails : (x : Edge) → In x (edges d from) → (x ≡ edge_of d from) ⊎ (is_root x ≡ false)
  other_fails x i = elim (root_or_daughter s d from x i) [
    | inl e ↦ inl e
    | inr r ↦ inr (ap not (any_from (λ f. is_to x (branch_of f.args)) ((set.exact r.fact).1 r.listed) r.below))
  ]

  module _ (each : (x : Edge) → In x (edges d from) → HasUnder x (tree_facts s d from)) where
    all_mothers_there : (x : Edge) → In x (edges d from) → In x (all_mothers facts)
    all_mothers_there x i =
        let h = each x i in
        In-flat_map (λ f. mothers (branch_of f.args)) ((set.exact h.fact).1 h.listed) (mother_of x (branch h.fact) h.below)

    root_is : root_of facts ≡ Some (edge_of d from)
    root_is = find_only is_root (edge_of d from) (all_mothers facts) (λ x i. other_fails x (mothers_are x i)) root_passes (all_mothers_there (edge_of d from) (own_edge d from))

    enough : depth d ≤ length facts
    enough =
        let a = depth-edges d from in
        let b = length-le_from_Once (edges d from) (all_mothers facts) once all_mothers_there in
        let c = length-all_mothers facts in
        omega (arith, a, b, c)

    pub text_is : tree_text facts ≡ bracketed s d from
    text_is = ap (root_text facts) root_is ∙ text_at d from (length facts) whole enough

pub tree_text_is_bracketed : TreeTextIsBracketed
tree_text_is_bracketed g s d e facts h once pos set = text_is s d e.from facts once pos set (all_have_under g s d e h pos)
