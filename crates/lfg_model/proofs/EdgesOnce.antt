-- No derivation has an edge twice.
use Rattle.std.proofs.Common.{◌≡◌, ℕ, ◌+◌, ◌≤◌, ◌<◌, List, [], ◌∷◌, ◌++◌, ap, sym, ◌∙◌, subst, arith, Some, inl, inr, ◌⊎◌}
use Rattle.lfg_terms.specs.declared.node.Edge.{Edge}
use Rattle.lfg_terms.specs.declared.grammar.Rule.{Rule}
use Rattle.lfg_terms.specs.declared.grammar.Grammar.{Grammar}
use Rattle.lfg_terms.specs.declared.tree.TokenForms.{TokenForms}
use Rattle.lfg_model.specs.Lists.{In, here, later, Once, none, more}
use Rattle.lfg_model.specs.Terms.{Tree, leaf, inner, Parts, no_part, empty, daughter}
use Rattle.lfg_model.specs.Derive.{rule_of, Runs, occurrences, edge, Derives, Covers}
use Rattle.lfg_model.specs.Trees.{width, edge_of}
use Rattle.lfg_model.specs.Brackets.{edges, parts_edges}
use Rattle.lfg_model.specs.Grounded.{Chain, link, links, IsGrounded, NoEdgeTwice, EdgesCoverTokens}
use Rattle.lfg_model.specs.Kept.{Reaches, at_start, go_on}
use Rattle.lfg_model.proofs.Acyclic.{no_cycle}
use Rattle.lfg_model.proofs.ListLaws.{In-nil, In-one, In-cons_cases, In-append_cases}
use Rattle.lfg_model.proofs.Spans.{item_of, tree_end, tree_edge, derivable, crosses_empty, crosses_daughter, ends_of}
use Rattle.lfg_model.proofs.Grounding.{tree_grows, parts_grow, Smaller, edges_end, below_less}

pub Once-append : {X : Type 0} (xs ys : List X) → Once xs → Once ys → ((x : X) → In x xs → In x ys → ⊥) → Once (xs ++ ys)
Once-append [] ys o p apart = p
Once-append (x ∷ xs) ys (more n o) p apart = more (λ i. elim (In-append_cases xs ys i) [ inl a ↦ n a | inr b ↦ apart x here b ]) (Once-append xs ys o p (λ z i j. apart z (later i) j))

module _ (g : Grammar) (s : List TokenForms) (ground : IsGrounded g) where
  -- an edge within a span
  pub record Lies (from to : ℕ) (x : Edge) : Type 0 where
    pub starts : from ≤ x.from
    pub some : x.from < x.to
    pub ends : x.to ≤ to

  wider : (f t a b : ℕ) (x : Edge) → a ≤ f → t ≤ b → Lies f t x → Lies a b x
  wider f t a b x h k y = record { starts = (let p = y.starts in omega arith); some = y.some; ends = (let p = y.ends in omega arith) }

  -- the edge or below it
  abbrev pub IsBelow : Edge → Edge → Type 0
  IsBelow x e = (x ≡ e) ⊎ Chain (Smaller g s ground) x e

  under : (x m e : Edge) → IsBelow x m → Smaller g s ground m e → Chain (Smaller g s ground) x e
  under x m e (inl is) less = let P : Edge → Type 0 = λ z. Chain (Smaller g s ground) z e in subst P (sym is) (link less)
  under x m e (inr c) less = links less c

  to_covers : (parts : Parts) (rule : Rule) (at to : ℕ) → Covers g s rule parts at to → at ≤ to
  to_covers parts rule at to h = elim (parts_grow g s ground parts rule at to h) [ inl a ↦ omega arith | inr a ↦ omega (arith, a.0) ]

  itself : (d : Tree) (e x : Edge) → Derives g s d e → x ≡ edge_of d e.from → Lies e.from e.to x × IsBelow x e
  itself d e x h is =
      let same : e ≡ x = sym (is ∙ tree_edge g s d e h) in
      let P : Edge → Type 0 = λ z. Lies e.from e.to z in
      (subst P same (record { starts = omega arith; some = tree_grows g s ground d e h; ends = omega arith }), inl (sym same))

  mutual
    pub tree_lies : (d : Tree) (e x : Edge) → Derives g s d e → In x (edges d e.from) → Lies e.from e.to x × IsBelow x e
    tree_lies (leaf cat entry picks) e x h i = itself (leaf cat entry picks) e x h (In-one i)
    tree_lies (inner cat parts) e x h i = elim (In-cons_cases i) [
      | inl is ↦ itself (inner cat parts) e x h is
      | inr j ↦ (let rule : rule_of g e.cat ≡ Some h.1.0 = ap (rule_of g) h.0 ∙ h.1.1 in
          let l = parts_lie parts e h.1.0 0 e.from x rule at_start h.1.2 h.1.3 j in (l.0, inr l.1))
    ]

    pub parts_lie : (parts : Parts) (e : Edge) (rule : Rule) (q at : ℕ) (x : Edge) → rule_of g e.cat ≡ Some rule → Reaches g s rule e.from q at → Runs rule.graph q (occurrences parts)
        → Covers g s rule parts at e.to → In x (parts_edges parts at) → Lies at e.to x × Chain (Smaller g s ground) x e
    parts_lie no_part e rule q at x is reach run h i = In-nil i
    parts_lie (empty occ picks rest) e rule q at x is reach run h i = parts_lie rest e rule occ at x is (go_on occ reach run.0 (crosses_empty g s rule occ at picks h.0)) run.1 h.1 i
    parts_lie (daughter occ picks below rest) e rule q at x is reach run h i =
        let w : at + width below ≡ h.1 = tree_end g s below _ h.3 in
        let m = edge h.0 at h.1 in
        let l = tree_grows g s ground below _ h.3 in
        let k = to_covers rest rule h.1 e.to h.4 in
        let less = below_less g s ground e rule q at occ h.1 h.0 is reach run.0 (item_of rule occ h.0 picks h.2) (derivable g s below m h.3) (ends_of g s rest rule occ h.1 e.to run.1 h.4) in
        elim (In-append_cases (edges below at) (parts_edges rest (at + width below)) i) [
          | inl j ↦ (let y = tree_lies below m x h.3 j in (wider at h.1 at e.to x (omega arith) k y.0, under x m e y.1 less))
          | inr j ↦ (let P : ℕ → Type 0 = λ n. In x (parts_edges rest n) in
              let y = parts_lie rest e rule occ h.1 x is (go_on occ reach run.0 (crosses_daughter g s rule occ at h.1 h.0 picks below h.2 h.3)) run.1 h.4 (subst P w j) in
              (wider h.1 e.to at e.to x (omega (arith, l)) (omega arith) y.0, y.1))
        ]

  mutual
    once : (d : Tree) (e : Edge) → Derives g s d e → Once (edges d e.from)
    once (leaf cat entry picks) e h = more (λ i. In-nil i) none
    once (inner cat parts) e h =
        let rule : rule_of g e.cat ≡ Some h.1.0 = ap (rule_of g) h.0 ∙ h.1.1 in
        let same = tree_edge g s (inner cat parts) e h in
        let P : Edge → Type 0 = λ z. In z (parts_edges parts e.from) in
        more (λ i. no_cycle (Smaller g s ground) (edges_end g s ground e) (parts_lie parts e h.1.0 0 e.from e rule at_start h.1.2 h.1.3 (subst P same i)).1)
        (parts_once parts e h.1.0 0 e.from rule at_start h.1.2 h.1.3)

    parts_once : (parts : Parts) (e : Edge) (rule : Rule) (q at : ℕ) → rule_of g e.cat ≡ Some rule → Reaches g s rule e.from q at → Runs rule.graph q (occurrences parts)
        → Covers g s rule parts at e.to → Once (parts_edges parts at)
    parts_once no_part e rule q at is reach run h = none
    parts_once (empty occ picks rest) e rule q at is reach run h = parts_once rest e rule occ at is (go_on occ reach run.0 (crosses_empty g s rule occ at picks h.0)) run.1 h.1
    parts_once (daughter occ picks below rest) e rule q at is reach run h =
        let w : at + width below ≡ h.1 = tree_end g s below _ h.3 in
        let m = edge h.0 at h.1 in
        let next = go_on occ reach run.0 (crosses_daughter g s rule occ at h.1 h.0 picks below h.2 h.3) in
        let P : ℕ → Type 0 = λ n. Once (edges below at ++ parts_edges rest n) in
        subst P (sym w) (Once-append (edges below at) (parts_edges rest h.1) (once below m h.3) (parts_once rest e rule occ h.1 is next run.1 h.4)
        (λ x i j. let a = (tree_lies below m x h.3 i).0 in let b = (parts_lie rest e rule occ h.1 x is next run.1 h.4 j).0 in omega (arith, a.ends, a.some, b.starts)))

pub no_edge_twice : NoEdgeTwice
no_edge_twice g s ground d e h = once g s ground d e h

pub edges_cover_tokens : EdgesCoverTokens
edges_cover_tokens g s ground d e h x i = (tree_lies g s ground d e x h i).0.some
