-- Under an edge come narrower edges, or as wide ones by a step to the only category of a walk; this
-- comes to an end.
use Rattle.std.proofs.Common.{◌≡◌, ℕ, ◌+◌, ◌-◌, ◌<◌, List, [], ◌∷◌, ◌++◌, map, refl, sym, ◌∙◌, subst, arith, append_assoc, Some, inl, inr, ◌⊎◌}
use Rattle.std.specs.Cmp.Lexicographic.{same_text}
use Rattle.lfg_terms.specs.declared.node.Edge.{Edge}
use Rattle.lfg_terms.specs.declared.grammar.Rule.{Rule}
use Rattle.lfg_terms.specs.declared.grammar.Grammar.{Grammar}
use Rattle.lfg_terms.specs.declared.tree.TokenForms.{TokenForms}
use Rattle.lfg_model.specs.Lists.{In}
use Rattle.lfg_model.specs.Terms.{Name, same_name, Tree, leaf, inner, Parts, no_part, empty, daughter}
use Rattle.lfg_model.specs.Derive.{rule_of, CanFollow, Runs, occurrences, edge, Derives, Covers}
use Rattle.lfg_model.specs.Grounded.{IsEmptyItem, IsItemOf, AreEmptyItems, HasOnlyCategory, Unary, IsGrounded}
use Rattle.lfg_model.specs.Kept.{Derivable, Crosses, by_none, by_edge, Reaches, at_start, go_on, Ends, at_end, before}
use Rattle.lfg_model.proofs.Acyclic.{Acc, acc_of, NumberFirst, lex_acc}
use Rattle.lfg_model.proofs.ListLaws.{In-map}
use Rattle.lfg_model.proofs.ManWalksTree.{In_from_find}
use Rattle.lfg_model.proofs.Spans.{empty_item}

-- a category with a rule heads one of the grammar's rules
pub has_rule : (g : Grammar) (cat : Name) (rule : Rule) → rule_of g cat ≡ Some rule → In cat (map (λ r. r.cat) g.rules)
has_rule g cat rule h =
    let f = In_from_find (λ r. same_name r.cat cat) g.rules rule h in
    let same : rule.cat ≡ cat = same_text rule.cat cat (sym f.1) in
    let P : Name → Type 0 = λ c. In c (map (λ r. r.cat) g.rules) in
    subst P same (In-map (λ (r : Rule). r.cat) f.0)

AreEmptyItems-append : (rule : Rule) (v w : List ℕ) → AreEmptyItems rule v → AreEmptyItems rule w → AreEmptyItems rule (v ++ w)
AreEmptyItems-append rule [] w a b = b
AreEmptyItems-append rule (p ∷ v) w a b = (a.0, AreEmptyItems-append rule v w a.1 b)

HasOnlyCategory-append : (rule : Rule) (v w : List ℕ) (cat : Name) → AreEmptyItems rule v → HasOnlyCategory rule w cat → HasOnlyCategory rule (v ++ w) cat
HasOnlyCategory-append rule [] w cat a b = b
HasOnlyCategory-append rule (p ∷ v) w cat a b = inl (a.0, HasOnlyCategory-append rule v w cat a.1 b)

-- empty items from the start of a rule up to the item q
pub record Front (rule : Rule) (q : ℕ) : Type 0 where
  pub walk : List ℕ
  pub empties : AreEmptyItems rule walk
  pub runs : (rest : List ℕ) → Runs rule.graph q rest → Runs rule.graph 0 (walk ++ rest)

-- empty items from the item q to an end of the rule
pub record Back (rule : Rule) (q : ℕ) : Type 0 where
  pub walk : List ℕ
  pub empties : AreEmptyItems rule walk
  pub runs : Runs rule.graph q walk

module _ (g : Grammar) (s : List TokenForms) (ground : IsGrounded g) where
  -- a tree covers a token
  mutual
    pub tree_grows : (d : Tree) (e : Edge) → Derives g s d e → e.from < e.to
    tree_grows (leaf cat entry picks) e h = let l : e.to ≡ e.from + 1 = (λ i. (h.0 i).to) in omega (arith, l)
    tree_grows (inner cat parts) e h = elim (parts_grow parts h.1.0 e.from e.to h.1.3) [
      | inl less ↦ less
      | inr none ↦ absurd (ground.filled cat h.1.0 (occurrences parts) h.1.1 h.1.2 none.1)
    ]

    pub parts_grow : (parts : Parts) (rule : Rule) (at to : ℕ) → Covers g s rule parts at to → (at < to) ⊎ ((at ≡ to) × AreEmptyItems rule (occurrences parts))
    parts_grow no_part rule at to h = inr (h, tt)
    parts_grow (empty occ picks rest) rule at to h = elim (parts_grow rest rule at to h.1) [
      | inl less ↦ inl less
      | inr none ↦ inr (none.0, (empty_item rule occ picks h.0, none.1))
    ]
    parts_grow (daughter occ picks below rest) rule at to h =
        let a = tree_grows below _ h.3 in
        elim (parts_grow rest rule h.1 to h.4) [ inl less ↦ inl (omega (arith, a, less)) | inr none ↦ inl (omega (arith, a, none.0)) ]

  pub grows : (e : Edge) → Derivable g s e → e.from < e.to
  grows e d = tree_grows d.tree e d.derives

  crosses_grow : (rule : Rule) (p at mid : ℕ) → Crosses g s rule p at mid → (at < mid) ⊎ ((at ≡ mid) × IsEmptyItem rule p)
  crosses_grow rule p at mid (by_none item h none) = inr (refl, (item, h, none))
  crosses_grow rule p at mid (by_edge item cat h hc d) = inl (grows (edge cat at mid) d)

  pub front : (rule : Rule) (start q at : ℕ) → Reaches g s rule start q at → (start < at) ⊎ ((start ≡ at) × Front rule q)
  front rule start q at at_start = inr (refl, record { walk = []; empties = tt; runs = λ rest h. h })
  front rule start q at (go_on {q = q0} {at = at0} p reach follow crosses) = both (front rule start q0 at0 reach) (crosses_grow rule p at0 at crosses)
    where
      both : (start < at0) ⊎ ((start ≡ at0) × Front rule q0) → (at0 < at) ⊎ ((at0 ≡ at) × IsEmptyItem rule p) → (start < at) ⊎ ((start ≡ at) × Front rule p)
      both (inl a) (inl b) = inl (omega arith)
      both (inl a) (inr b) = inl (omega (arith, b.0))
      both (inr a) (inl b) = inl (omega (arith, a.0))
      both (inr a) (inr b) = inr (
        a.0 ∙ b.0,
        record {
          walk = a.1.walk ++ p ∷ [];
          empties = AreEmptyItems-append rule a.1.walk (p ∷ []) a.1.empties (b.1, tt);
          runs = λ rest h. (let P : List ℕ → Type 0 = λ w. Runs rule.graph 0 w in subst P (sym (append_assoc a.1.walk (p ∷ []) rest)) (a.1.runs (p ∷ rest) (follow, h)));
        },
      )

  pub back : (rule : Rule) (end q at : ℕ) → Ends g s rule end q at → (at < end) ⊎ ((at ≡ end) × Back rule q)
  back rule end q at (at_end h) = inr (refl, record { walk = []; empties = tt; runs = h })
  back rule end q at (before {mid = mid} p follow crosses ends) = both (crosses_grow rule p at mid crosses) (back rule end p mid ends)
    where
      both : (at < mid) ⊎ ((at ≡ mid) × IsEmptyItem rule p) → (mid < end) ⊎ ((mid ≡ end) × Back rule p) → (at < end) ⊎ ((at ≡ end) × Back rule q)
      both (inl a) (inl b) = inl (omega arith)
      both (inl a) (inr b) = inl (omega (arith, b.0))
      both (inr a) (inl b) = inl (omega (arith, a.0))
      both (inr a) (inr b) = inr (a.0 ∙ b.0, record { walk = p ∷ b.1.walk; empties = (a.1, b.1.empties); runs = (follow, b.1.runs) })

  -- how many tokens an edge covers
  pub wide : Edge → ℕ
  wide e = e.to - e.from

  -- narrower, or as wide and the only category of a walk
  abbrev pub Smaller : Edge → Edge → Type 0
  Smaller = NumberFirst wide (λ e. e.cat) (Unary g)

  pub edges_end : (e : Edge) → Acc Smaller e
  edges_end = lex_acc wide (λ e. e.cat) (Unary g) (acc_of (Unary g) (map (λ r. r.cat) g.rules) (λ d c u. has_rule g c u.0 u.1) ground.unary)

  -- a daughter is smaller than its mother
  pub below_less : (e : Edge) (rule : Rule) (q at p mid : ℕ) (cat : Name) → rule_of g e.cat ≡ Some rule → Reaches g s rule e.from q at → CanFollow rule.graph q p → IsItemOf rule p cat
      → Derivable g s (edge cat at mid) → Ends g s rule e.to p mid → Smaller (edge cat at mid) e
  unfolding wide
  below_less e rule q at p mid cat is reach follow item d ends = both (front rule e.from q at reach) (back rule e.to p mid ends)
    where
      l : at < mid
      l = grows (edge cat at mid) d

      both : (e.from < at) ⊎ ((e.from ≡ at) × Front rule q) → (mid < e.to) ⊎ ((mid ≡ e.to) × Back rule p) → Smaller (edge cat at mid) e
      both (inl a) (inl b) = inl (omega (arith, l))
      both (inl a) (inr b) = inl (omega (arith, l, b.0))
      both (inr a) (inl b) = inl (omega (arith, l, a.0))
      both (inr a) (inr b) = inr (
        omega (arith, a.0, b.0),
        (
          rule,
          is,
          (
            a.1.walk ++ p ∷ b.1.walk,
            a.1.runs (p ∷ b.1.walk) (follow, b.1.runs),
            HasOnlyCategory-append rule a.1.walk (p ∷ b.1.walk) cat a.1.empties (inr (item, b.1.empties)),
          ),
        ),
      )
