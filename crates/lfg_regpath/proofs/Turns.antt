-- The turns of the loops over path expressions of the program, and the arms of stars.
use Rattle.std.proofs.Common.{◌≡◌, ℕ, ◌+◌, ◌-◌, ◌≤◌, ◌<◌, min, List, [], ◌∷◌, length, drop, get_or, sym, ap, subst, ◌∙◌, arith, ◌⊎◌, Vec, Global}
use Rattle.std.specs.Prelude.{Result, IfOk, IfErr}
use Rattle.std.proofs.lemmas.Result.{IfOk-weaker, IfErr-weaker}
use Rattle.lfg_terms.specs.declared.path_expr.PathExpr.{PathExpr}
use Rattle.lfg_terms.specs.declared.path_expr.PathExpr.TheVariants.{Star, Plus}
use Rattle.lfg_terms.specs.declared.path.Path as declared
use Rattle.lfg_model.specs.Lists.{In}
use Rattle.lfg_model.specs.Terms.{Path}
use Rattle.lfg_model.specs.PathExpressions.{PathExpression, PathExpressions, and_path, row, one_of, star, plus, HasShort, expression_of, expressions_of}
use Rattle.lfg_model.proofs.PathViews.{view_star, view_plus}
use Rattle.lfg_regpath.specs.declared.fault.PathFault.{PathFault}
use Rattle.lfg_regpath.specs.Sets.{Holds, IsJoin, IsRepeat, IsSet, Overfull}
use Rattle.lfg_regpath.specs.Least.{least, least_of_row}
use Rattle.lfg_regpath.proofs.LeastLaws.{rest_is, rest_none}
use Rattle.lfg_regpath.proofs.SetLaws.{is_set}
use Rattle.lfg_regpath.proofs.RowLaws.{RowState, row_start, row_step, row_stop, row_stop_joined, row_end, BranchState, branch_step, branch_stop, branch_stop_added, branch_end}
use Rattle.lfg_regpath.proofs.StringLaws.{plus_set, plus_stop, plus_full, star_set, star_stop, star_full, short_of}

-- ---- stars

pub at_star : (path : PathExpr) (inside : _) (inner : PathExpr) → path ≡ Star inside → inner ≡ inside.value → expression_of path ≡ star (expression_of inner)
at_star path inside inner e f = ap expression_of e ∙ view_star inside ∙ ap (λ (p : PathExpr). star (expression_of p)) (sym f)

pub at_plus : (path : PathExpr) (inside : _) (inner : PathExpr) → path ≡ Plus inside → inner ≡ inside.value → expression_of path ≡ plus (expression_of inner)
at_plus path inside inner e f = ap expression_of e ∙ view_plus inside ∙ ap (λ (p : PathExpr). plus (expression_of p)) (sym f)

module _ (whole inside : PathExpression) (limit : ℕ) (xs found : List Path) (same : xs ≡ found) (f : Holds (HasShort inside limit) found) (result : Result (Vec declared.Path Global) PathFault) where
  pub star_all : whole ≡ star inside → IfOk result (λ set. Holds (λ w. IsRepeat xs limit w ⊎ (w ≡ [])) set.items) → IfOk result (λ set. Holds (HasShort whole limit) set.items)
  star_all e h =
      IfOk-weaker result (λ set. Holds (λ w. IsRepeat xs limit w ⊎ (w ≡ [])) set.items) (λ set. Holds (HasShort whole limit) set.items)
      (λ set s. subst (λ (x : PathExpression). Holds (HasShort x limit) set.items) (sym e)
      (star_set inside limit found f (subst (λ (ys : List Path). Holds (λ w. IsRepeat ys limit w ⊎ (w ≡ [])) set.items) same s)))
      h

  pub star_over : whole ≡ star inside → IfErr result (λ fault. Overfull (λ w. IsRepeat xs limit w ⊎ (w ≡ [])) fault) → IfErr result (λ fault. Overfull (HasShort whole limit) fault)
  star_over e h =
      IfErr-weaker result (λ fault. Overfull (λ w. IsRepeat xs limit w ⊎ (w ≡ [])) fault) (λ fault. Overfull (HasShort whole limit) fault)
      (λ fault s. subst (λ (x : PathExpression). Overfull (HasShort x limit) fault) (sym e)
      (star_stop inside limit found f fault (subst (λ (ys : List Path). Overfull (λ w. IsRepeat ys limit w ⊎ (w ≡ [])) fault) same s)))
      h

  pub plus_all : whole ≡ plus inside → IfOk result (λ set. Holds (IsRepeat xs limit) set.items) → IfOk result (λ set. Holds (HasShort whole limit) set.items)
  plus_all e h =
      IfOk-weaker result (λ set. Holds (IsRepeat xs limit) set.items) (λ set. Holds (HasShort whole limit) set.items)
      (λ set s. subst (λ (x : PathExpression). Holds (HasShort x limit) set.items) (sym e)
      (plus_set inside limit found f (subst (λ (ys : List Path). Holds (IsRepeat ys limit) set.items) same s)))
      h

  pub plus_over : whole ≡ plus inside → IfErr result (λ fault. Overfull (IsRepeat xs limit) fault) → IfErr result (λ fault. Overfull (HasShort whole limit) fault)
  plus_over e h =
      IfErr-weaker result (λ fault. Overfull (IsRepeat xs limit) fault) (λ fault. Overfull (HasShort whole limit) fault)
      (λ fault s. subst (λ (x : PathExpression). Overfull (HasShort x limit) fault) (sym e)
      (plus_stop inside limit found f fault (subst (λ (ys : List Path). Overfull (IsRepeat ys limit) fault) same s)))
      h

  pub repeats_few : IsSet xs
  repeats_few = subst (λ (ys : List Path). IsSet ys) (sym same) (is_set _ f)

  pub repeats_limit : (w : Path) → In w xs → length w ≤ limit
  repeats_limit w i = short_of inside limit found f w (subst (λ (ys : List Path). In w ys) same i)

pub star_full_at : (whole inside : PathExpression) (limit : ℕ) (fault : PathFault) → whole ≡ star inside → Overfull (HasShort inside limit) fault → Overfull (HasShort whole limit) fault
star_full_at whole inside limit fault e h = subst (λ (x : PathExpression). Overfull (HasShort x limit) fault) (sym e) (star_full inside limit fault h)

pub plus_full_at : (whole inside : PathExpression) (limit : ℕ) (fault : PathFault) → whole ≡ plus inside → Overfull (HasShort inside limit) fault → Overfull (HasShort whole limit) fault
plus_full_at whole inside limit fault e h = subst (λ (x : PathExpression). Overfull (HasShort x limit) fault) (sym e) (plus_full inside limit fault h)

-- ---- rows

-- how far the loop over the parts is: the rest of them has index i
pub record IsReadTo (paths : List PathExpr) (i spare so_far limit : ℕ) (set : List Path) : Type 0 where
  pub state : RowState (expressions_of paths) (expressions_of (drop i paths)) spare so_far set
  pub sum : spare + (so_far + least_of_row (expressions_of (drop i paths))) ≡ limit

pub read_none : (paths : List PathExpr) (shortest limit : ℕ) (set : List Path) → shortest ≡ least_of_row (expressions_of paths) → shortest ≤ limit → set ≡ [] ∷ [] → IsReadTo paths 0 (limit - shortest) 0 limit set
read_none paths shortest limit set e l s = record {
  state = subst (λ (ys : List Path). RowState (expressions_of paths) (expressions_of paths) (limit - shortest) 0 ys) (sym s) (row_start (expressions_of paths) (limit - shortest));
  sum = omega (arith, e, l);
}

module _ (paths : List PathExpr) (i : ℕ) (p : PathExpr) (within : i < length paths) (at : p ≡ get_or paths i p) (spare so_far limit : ℕ) (set : List Path) (r : IsReadTo paths i spare so_far limit set) (own : ℕ) (is_own : own ≡ least (expression_of p)) (few : limit ≤ 8) where
  rest_of : PathExpressions
  rest_of = expressions_of (drop (i + 1) paths)

  here_state : RowState (expressions_of paths) (and_path (expression_of p) rest_of) spare so_far set
  unfolding rest_of
  here_state = subst (λ (es : PathExpressions). RowState (expressions_of paths) es spare so_far set) (rest_is paths i p within at) r.state

  here_sum : least_of_row (expressions_of (drop i paths)) ≡ min 9 (least (expression_of p) + least_of_row rest_of)
  unfolding rest_of
  here_sum = ap (λ (es : PathExpressions). least_of_row es) (rest_is paths i p within at)

  here_few : least (expression_of p) + least_of_row rest_of < 9
  here_few = let a = here_sum in omega (arith, a, r.sum, few)

  here_limit : limit ≡ spare + (so_far + (least (expression_of p) + least_of_row rest_of))
  here_limit = let a = here_sum in omega (arith, a, r.sum, few)

  pub own_fits : spare + own ≤ 8
  own_fits = let a = here_limit in omega (arith, a, is_own, few)

  pub read_stop : (fault : PathFault) → Overfull (HasShort (expression_of p) (spare + own)) fault → Overfull (HasShort (row (expressions_of paths)) limit) fault
  read_stop fault over =
      row_stop (expressions_of paths) rest_of (expression_of p) spare so_far set here_state here_few limit fault here_limit
      (subst (λ (n : ℕ). Overfull (HasShort (expression_of p) (spare + n)) fault) is_own over)

  module _ (found : List Path) (f : Holds (HasShort (expression_of p) (spare + own)) found) (xs ys : List Path) (a : xs ≡ set) (b : ys ≡ found) where
    found_is : Holds (HasShort (expression_of p) (spare + least (expression_of p))) found
    found_is = subst (λ (n : ℕ). Holds (HasShort (expression_of p) (spare + n)) found) is_own f

    pub read_stop_joined : (fault : PathFault) → Overfull (IsJoin xs ys (spare + (so_far + own))) fault → Overfull (HasShort (row (expressions_of paths)) limit) fault
    read_stop_joined fault over =
        row_stop_joined (expressions_of paths) rest_of (expression_of p) spare so_far set here_state here_few found limit fault found_is here_limit
        (subst (λ (n : ℕ). Overfull (IsJoin set found (spare + (so_far + n))) fault) is_own
        (subst (λ (zs : List Path). Overfull (IsJoin set zs (spare + (so_far + own))) fault) b
        (subst (λ (zs : List Path). Overfull (IsJoin zs ys (spare + (so_far + own))) fault) a over)))

    pub read_on : (next : List Path) → Holds (IsJoin xs ys (spare + (so_far + own))) next → IsReadTo paths (i + 1) spare (so_far + own) limit next
    unfolding rest_of
    read_on next n =
        let m : Holds (IsJoin set found (spare + (so_far + least (expression_of p)))) next =
        subst (λ (n : ℕ). Holds (IsJoin set found (spare + (so_far + n))) next) is_own
        (subst (λ (zs : List Path). Holds (IsJoin set zs (spare + (so_far + own))) next) b
        (subst (λ (zs : List Path). Holds (IsJoin zs ys (spare + (so_far + own))) next) a n)) in
        record {
          state = subst (λ (n : ℕ). RowState (expressions_of paths) (expressions_of (drop (i + 1) paths)) spare (so_far + n) next) (sym is_own)
              (row_step (expressions_of paths) rest_of (expression_of p) spare so_far set here_state here_few found next found_is m);
          sum = let a = here_limit in omega (arith, a, is_own);
        }

pub read_all : (paths : List PathExpr) (i spare so_far limit : ℕ) (set : List Path) → length paths ≤ i → IsReadTo paths i spare so_far limit set → Holds (HasShort (row (expressions_of paths)) limit) set
read_all paths i spare so_far limit set l r =
    let e = rest_none paths i l in
    let a : least_of_row (expressions_of (drop i paths)) ≡ 0 = ap (λ (es : PathExpressions). least_of_row es) e in
    row_end (expressions_of paths) spare so_far limit set (omega (arith, a, r.sum))
    (subst (λ (es : PathExpressions). RowState (expressions_of paths) es spare so_far set) e r.state)

-- ---- branches

module _ (paths : List PathExpr) (i : ℕ) (p : PathExpr) (within : i < length paths) (at : p ≡ get_or paths i p) (limit : ℕ) (set : List Path) (s : BranchState (expressions_of paths) (expressions_of (drop i paths)) limit set) where
  here_branch : BranchState (expressions_of paths) (and_path (expression_of p) (expressions_of (drop (i + 1) paths))) limit set
  here_branch = subst (λ (es : PathExpressions). BranchState (expressions_of paths) es limit set) (rest_is paths i p within at) s

  pub branch_over : (fault : PathFault) → Overfull (HasShort (expression_of p) limit) fault → Overfull (HasShort (one_of (expressions_of paths)) limit) fault
  branch_over fault over = branch_stop (expressions_of paths) (expressions_of (drop (i + 1) paths)) (expression_of p) limit set here_branch fault over

  module _ (found : List Path) (f : Holds (HasShort (expression_of p) limit) found) (ys : List Path) (b : ys ≡ found) where
    pub branch_over_added : (fault : PathFault) → Overfull (λ w. In w set ⊎ In w ys) fault → Overfull (HasShort (one_of (expressions_of paths)) limit) fault
    branch_over_added fault over =
        branch_stop_added (expressions_of paths) (expressions_of (drop (i + 1) paths)) (expression_of p) limit set here_branch found f fault
        (subst (λ (zs : List Path). Overfull (λ w. In w set ⊎ In w zs) fault) b over)

    pub branch_on : (next : List Path) → Holds (λ w. In w set ⊎ In w ys) next → BranchState (expressions_of paths) (expressions_of (drop (i + 1) paths)) limit next
    branch_on next n =
        branch_step (expressions_of paths) (expressions_of (drop (i + 1) paths)) (expression_of p) limit set here_branch found f next
        (subst (λ (zs : List Path). Holds (λ w. In w set ⊎ In w zs) next) b n)

pub branch_all : (paths : List PathExpr) (i limit : ℕ) (set : List Path) → length paths ≤ i → BranchState (expressions_of paths) (expressions_of (drop i paths)) limit set → Holds (HasShort (one_of (expressions_of paths)) limit) set
branch_all paths i limit set l s = branch_end (expressions_of paths) limit set (subst (λ (es : PathExpressions). BranchState (expressions_of paths) es limit set) (rest_none paths i l) s)
