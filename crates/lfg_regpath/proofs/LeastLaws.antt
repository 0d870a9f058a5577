-- The least number of attributes of a string.
use Rattle.std.proofs.Common.{◌≡◌, ℕ, ◌+◌, ◌≤◌, ◌<◌, min, List, [], ◌∷◌, ◌++◌, length, drop, get_or, refl, sym, ap, ◌∙◌, arith, inl, inr, ◌⊎◌}
use Rattle.std.proofs.lemmas.List.{length-append, append-nil}
use Rattle.lfg_terms.specs.declared.path_expr.PathExpr.{PathExpr}
use Rattle.lfg_model.specs.Terms.{Path}
use Rattle.lfg_model.specs.PathExpressions.{PathExpression, attribute, row, one_of, star, plus, PathExpressions, no_path, and_path, HasString, HasRow, HasBranch, no_more, expression_of, expressions_of}
use Rattle.lfg_regpath.specs.Least.{least, least_of_row, least_of_branches}
use Rattle.lfg_regpath.proofs.SetLaws.{at_drop, drop_whole}

-- ---- what is left of a list of parts

pub rest_is : (paths : List PathExpr) (i : ℕ) (p : PathExpr) → i < length paths → p ≡ get_or paths i p
    → expressions_of (drop i paths) ≡ and_path (expression_of p) (expressions_of (drop (i + 1) paths))
rest_is paths i p l e = ap (λ (ps : List PathExpr). expressions_of ps) (at_drop paths i p l e)

pub rest_none : (paths : List PathExpr) (i : ℕ) → length paths ≤ i → expressions_of (drop i paths) ≡ no_path
rest_none paths i l = ap (λ (ps : List PathExpr). expressions_of ps) (drop_whole i paths l)

-- ---- least is at most 9

mutual
  pub least_few : (e : PathExpression) → least e ≤ 9
  least_few (attribute name) = omega arith
  least_few (row parts) = row_few parts
  least_few (one_of branches) = branches_few branches
  least_few (star inside) = omega arith
  least_few (plus inside) = least_few inside

  pub row_few : (es : PathExpressions) → least_of_row es ≤ 9
  row_few no_path = omega arith
  row_few (and_path e es) = omega arith

  pub branches_few : (es : PathExpressions) → least_of_branches es ≤ 9
  branches_few no_path = omega arith
  branches_few (and_path e es) = let h = branches_few es in omega arith

-- ---- no string has fewer attributes

mutual
  pub least_le : (e : PathExpression) (w : Path) → HasString e w → least e ≤ length w
  least_le (attribute name) w h = omega (arith, ap length h)
  least_le (row parts) w h = row_le parts w h
  least_le (one_of branches) w h = branches_le branches w h
  least_le (star inside) w h = omega arith
  least_le (plus inside) w h = omega (arith, least_le inside h.front h.first, ap length h.is, length-append h.front h.back)

  pub row_le : (es : PathExpressions) (w : Path) → HasRow es w → least_of_row es ≤ length w
  row_le no_path w h = omega arith
  row_le (and_path e es) w h = omega (arith, least_le e h.front h.first, row_le es h.back h.second, ap length h.is, length-append h.front h.back)

  pub branches_le : (es : PathExpressions) (w : Path) → HasBranch es w → least_of_branches es ≤ length w
  branches_le no_path w h = absurd h
  branches_le (and_path e es) w h = elim h [
    | inl a ↦ let r : least e ≤ length w = least_le e w a in omega arith
    | inr b ↦ let r : least_of_branches es ≤ length w = branches_le es w b in omega arith
  ]

-- ---- some string has that many

-- a string with P and this number of attributes
pub record Reaches (P : Path → Type 0) (n : ℕ) : Type 0 where
  pub string : Path
  pub has : P string
  pub size : length string ≡ n

smaller : (m n : ℕ) → (min m n ≡ m) ⊎ (min m n ≡ n)
smaller m n = grind arith

mutual
  pub least_has : (e : PathExpression) → least e < 9 → Reaches (HasString e) (least e)
  least_has (attribute name) l = record { string = name ∷ []; has = refl; size = refl }
  least_has (row parts) l = row_has parts l
  least_has (one_of branches) l = branches_has branches l
  least_has (star inside) l = record { string = []; has = no_more; size = refl }
  least_has (plus inside) l =
      let r = least_has inside l in
      record { string = r.string; has = record { front = r.string; back = []; is = sym (append-nil r.string); first = r.has; second = no_more }; size = r.size }

  pub row_has : (es : PathExpressions) → least_of_row es < 9 → Reaches (HasRow es) (least_of_row es)
  row_has no_path l = record { string = []; has = refl; size = refl }
  row_has (and_path e es) l =
      let a = least_has e (omega arith) in
      let b = row_has es (omega arith) in
      record {
        string = a.string ++ b.string;
        has = record { front = a.string; back = b.string; is = refl; first = a.has; second = b.has };
        size = omega (arith, length-append a.string b.string, a.size, b.size);
      }

  pub branches_has : (es : PathExpressions) → least_of_branches es < 9 → Reaches (HasBranch es) (least_of_branches es)
  branches_has no_path l = absurd (omega arith)
  branches_has (and_path e es) l = elim (smaller (least e) (least_of_branches es)) [
    | inl f ↦ let r = least_has e (omega arith) in record { string = r.string; has = inl r.has; size = r.size ∙ sym f }
    | inr f ↦ let r = branches_has es (omega arith) in record { string = r.string; has = inr r.has; size = r.size ∙ sym f }
  ]
