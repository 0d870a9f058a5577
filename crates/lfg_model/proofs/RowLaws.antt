-- What the rows of a table mean, and that they run from left to right.
use Rattle.std.proofs.Common.{◌≡◌, ℕ, ◌≤◌, List, ap, arith, refl, sym, ◌∙◌, subst, Some}
use Rattle.lfg_terms.specs.declared.node.Edge.{Edge}
use Rattle.lfg_terms.specs.declared.grammar.Rule.{Rule}
use Rattle.lfg_terms.specs.declared.grammar.Grammar.{Grammar}
use Rattle.lfg_terms.specs.declared.tree.TokenForms.{TokenForms}
use Rattle.lfg_model.specs.Terms.{Name, Tree, leaf, inner, Parts, no_part, empty, daughter}
use Rattle.lfg_model.specs.Derive.{rule_of, CanFollow, CanEnd, Runs, occurrences, edge, Derives, Covers}
use Rattle.lfg_model.specs.Kept.{Derivable, Crosses, by_none, by_edge, Reaches, at_start, go_on, Ends, at_end, before, IsFillable}
use Rattle.lfg_model.specs.ChartRows.{Label, OfCategory, ReadUpTo, LeftBehind, ChartRow, word, read_all, read_none, read_empty, read_daughter, left_none, left_empty, left_daughter, Means, RowsMean}
use Rattle.lfg_model.proofs.OneTree.{same_some}
use Rattle.lfg_model.proofs.Spans.{empty_item, item_of}
use Rattle.lfg_model.proofs.Building.{full}
use Rattle.lfg_model.proofs.Standing.{word_of, leaf_of}

module _ (g : Grammar) (s : List TokenForms) (fill : IsFillable g) where
  one_rule : (cat : Name) (rule other : Rule) (P : Rule → Type 0) → rule_of g cat ≡ Some other → rule_of g cat ≡ Some rule → P other → P rule
  one_rule cat rule other P h k p = subst P (same_some _ _ (sym h ∙ k)) p

  whole : (cat : Name) (i j q : ℕ) (rule : Rule) → rule_of g cat ≡ Some rule → CanEnd rule.graph q → Reaches g s rule i q j → Derivable g s (edge cat i j)
  whole cat i j q rule is end reach =
      let f = full g s fill cat rule is i j q j reach (record { parts = no_part; runs = end; covers = refl }) in
      record { tree = inner cat f.all.parts; derives = (refl, (rule, is, f.all.runs, f.all.covers)) }

  means : {label : Label} {i j : ℕ} → ChartRow g s label i j → Means g s label i j
  means (word {cat = cat} {i = i} {j = j} k w) =
      let f = fill.entries k w.lex w.listed in record { tree = leaf cat k f.0; derives = leaf_of g s (edge cat i j) k w.lex f.0 w refl f.1 }
  means (read_all {cat = cat} {q = q} {i = i} {j = j} rule is end row) = let m = means row in whole cat i j q rule is end (one_rule cat rule m.0 (λ z. Reaches g s z i q j) m.1 is m.2)
  means (read_none rule is) = (rule, is, at_start)
  means (read_empty {cat = cat} {q = q} {p = p} {i = i} {j = j} rule is follow item row) =
      let m = means row in (rule, is, go_on p (one_rule cat rule m.0 (λ z. Reaches g s z i q j) m.1 is m.2) follow (by_none item.0 item.1 item.2))
  means (read_daughter {cat = cat} {below = d} {q = q} {p = p} {i = i} {j = j} rule is follow item row below) =
      let m = means row in (rule, is, go_on p (one_rule cat rule m.0 (λ z. Reaches g s z i q j) m.1 is m.2) follow (by_edge item.0 d item.1 item.2 (means below)))
  means (left_none rule is end) = (rule, is, at_end end)
  means (left_empty {cat = cat} {q = q} {p = p} {i = i} {j = j} rule is follow item row) =
      let m = means row in (rule, is, before p follow (by_none item.0 item.1 item.2) (one_rule cat rule m.0 (λ z. Ends g s z j p i) m.1 is m.2))
  means (left_daughter {cat = cat} {below = d} {q = q} {p = p} {j = j} {k = k} rule is follow item below row) =
      let m = means row in (rule, is, before p follow (by_edge item.0 d item.1 item.2 (means below)) (one_rule cat rule m.0 (λ z. Ends g s z k p j) m.1 is m.2))

  mutual
    tree_row : (d : Tree) (e : Edge) → Derives g s d e → ChartRow g s (OfCategory e.cat) e.from e.to
    tree_row (leaf cat entry picks) e h = word entry (word_of g s cat entry picks e h)
    tree_row (inner cat parts) e h =
        let rule : rule_of g e.cat ≡ Some h.1.0 = ap (rule_of g) h.0 ∙ h.1.1 in
        parts_row parts e h.1.0 0 e.from rule (read_none h.1.0 rule) h.1.2 h.1.3

    parts_row : (parts : Parts) (e : Edge) (rule : Rule) (q at : ℕ) → rule_of g e.cat ≡ Some rule → ChartRow g s (ReadUpTo e.cat q) e.from at → Runs rule.graph q (occurrences parts)
        → Covers g s rule parts at e.to → ChartRow g s (OfCategory e.cat) e.from e.to
    parts_row no_part e rule q at is row run h = read_all rule is run (let P : ℕ → Type 0 = λ n. ChartRow g s (ReadUpTo e.cat q) e.from n in subst P h row)
    parts_row (empty occ picks rest) e rule q at is row run h = parts_row rest e rule occ at is (read_empty rule is run.0 (empty_item rule occ picks h.0) row) run.1 h.1
    parts_row (daughter occ picks below rest) e rule q at is row run h =
        parts_row rest e rule occ h.1 is (read_daughter rule is run.0 (item_of rule occ h.0 picks h.2) row (tree_row below _ h.3)) run.1 h.4

  reach_row : (cat : Name) (rule : Rule) (i q j : ℕ) → rule_of g cat ≡ Some rule → Reaches g s rule i q j → ChartRow g s (ReadUpTo cat q) i j
  reach_row cat rule i q j is at_start = read_none rule is
  reach_row cat rule i q j is (go_on {q = q0} {at = at} p reach follow crosses) = by_cases p at j follow crosses (reach_row cat rule i q0 at is reach)
    where
      by_cases : (p at j : ℕ) → CanFollow rule.graph q0 p → Crosses g s rule p at j → ChartRow g s (ReadUpTo cat q0) i at → ChartRow g s (ReadUpTo cat p) i j
      by_cases p at j follow (by_none item h none) row = read_empty rule is follow (item, h, none) row
      by_cases p at j follow (by_edge item d h hc t) row = read_daughter rule is follow (item, h, hc) row (tree_row t.tree (edge d at j) t.derives)

  end_row : (cat : Name) (rule : Rule) (j i q : ℕ) → rule_of g cat ≡ Some rule → Ends g s rule j q i → ChartRow g s (LeftBehind cat q) i j
  end_row cat rule j i q is (at_end h) = left_none rule is h
  end_row cat rule j i q is (before {mid = mid} p follow crosses ends) = by_cases p i mid follow crosses (end_row cat rule j mid p is ends)
    where
      by_cases : (p i mid : ℕ) → CanFollow rule.graph q p → Crosses g s rule p i mid → ChartRow g s (LeftBehind cat p) mid j → ChartRow g s (LeftBehind cat q) i j
      by_cases p i mid follow (by_none item h none) row = left_empty rule is follow (item, h, none) row
      by_cases p i mid follow (by_edge item d h hc t) row = left_daughter rule is follow (item, h, hc) (tree_row t.tree (edge d i mid) t.derives) row

  row_of : (label : Label) (i j : ℕ) → Means g s label i j → ChartRow g s label i j
  row_of (OfCategory cat) i j m = tree_row m.tree (edge cat i j) m.derives
  row_of (ReadUpTo cat q) i j m = reach_row cat m.0 i q j m.1 m.2
  row_of (LeftBehind cat q) i j m = end_row cat m.0 j i q m.1 m.2

pub rows_mean : RowsMean
rows_mean g s fill label i j = (means g s fill, row_of g s fill label i j)

-- nothing in a row ends before its start
pub row_spans : (g : Grammar) (s : List TokenForms) {label : Label} {i j : ℕ} → ChartRow g s label i j → i ≤ j
row_spans g s (word k w) = let to = w.one_token in omega (arith, to)
row_spans g s (read_all rule is end row) = row_spans g s row
row_spans g s (read_none rule is) = omega arith
row_spans g s (read_empty rule is follow item row) = row_spans g s row
row_spans g s (read_daughter rule is follow item row below) = let a = row_spans g s row in let b = row_spans g s below in omega (arith, a, b)
row_spans g s (left_none rule is end) = omega arith
row_spans g s (left_empty rule is follow item row) = row_spans g s row
row_spans g s (left_daughter rule is follow item below row) = let a = row_spans g s below in let b = row_spans g s row in omega (arith, a, b)
