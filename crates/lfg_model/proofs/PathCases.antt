-- Paths are read as the cases say.
use Rattle.std.proofs.Common.{◌≡◌, ℕ, zero, suc, ◌<◌, ◌≤◌, ◌+◌, ◌*◌, Bool, true, false, Option, Some, List, [], ◌∷◌, length, refl, ap, ◌∙◌, subst, arith}
use Rattle.lfg_model.specs.declared.lexeme.Lexeme.{Lexeme}
use Rattle.lfg_model.specs.declared.lexeme.Lexeme.TheVariants.{Word, OpenBracket, CloseBracket, OpenBrace, CloseBrace, Bar, Star, Plus}
use Rattle.lfg_model.specs.declared.notation.Repetition.{Repetition}
use Rattle.lfg_model.specs.declared.notation.Repetition.TheVariants.{Once}
use Rattle.lfg_model.specs.PathExpressions.{PathExpression, attribute, one_of, expressions_from}
use Rattle.lfg_model.specs.Nests.{◌>>=◌, readers}
use Rattle.lfg_model.specs.PathNotation.{repetition_at, repeat_path, repeated_path, path_row, closed_path, part_by, begins_path, paths}
use Rattle.lfg_model.specs.RightSideNotation.{closes_term}
use Rattle.lfg_model.specs.NotationCases.{IsRepetition, once, any_times, once_or_more, IsPart, part_name, part_branches, part_row, IsPath, last_part, more_parts, IsPathBranches, last_path, more_paths, PathsByCases}
use Rattle.lfg_model.proofs.NestCases.{same_some, bound, row_last, row_more, branches_last, branches_more, RowCases, one, more, row_cases, BranchCases, one as one_branch, more as more_branch, branch_cases}
use Rattle.lfg_model.proofs.PathNotationLaws.{paths_down}

-- ---- signs of repetition

-- a sign of repetition stands here
abbrev pub repeats : List Lexeme → Bool
repeats (Star ∷ ls) = true
repeats (Plus ∷ ls) = true
repeats ls = false

no_repetition : (ls : List Lexeme) → repeats ls ≡ false → repetition_at ls ≡ (Once, ls)
no_repetition [] e = refl
no_repetition (Star ∷ ls) e = cc
no_repetition (Plus ∷ ls) e = cc
no_repetition (_ ∷ ls) e = refl

pub to_repetition : {ls us : List Lexeme} {often : Repetition} → IsRepetition ls often us → repeats us ≡ false → repetition_at ls ≡ (often, us)
to_repetition (once {ls}) e = no_repetition ls e
to_repetition any_times e = refl
to_repetition once_or_more e = refl

pub from_repetition : (ls : List Lexeme) → IsRepetition ls (repetition_at ls).0 (repetition_at ls).1
from_repetition [] = once
from_repetition (Star ∷ ls) = any_times
from_repetition (Plus ∷ ls) = once_or_more
from_repetition (_ ∷ ls) = once

pub closes_no_repetition : (ls : List Lexeme) → closes_term ls ≡ true → repeats ls ≡ false
closes_no_repetition [] e = refl
closes_no_repetition (Star ∷ ls) e = cc
closes_no_repetition (Plus ∷ ls) e = cc
closes_no_repetition (_ ∷ ls) e = refl

closes_no_path : (ls : List Lexeme) → closes_term ls ≡ true → begins_path ls ≡ false
closes_no_path [] e = refl
closes_no_path (Word a ∷ ls) e = cc
closes_no_path (OpenBrace ∷ ls) e = cc
closes_no_path (OpenBracket ∷ ls) e = cc
closes_no_path (_ ∷ ls) e = refl

begins_no_repetition : (ls : List Lexeme) → begins_path ls ≡ true → repeats ls ≡ false
begins_no_repetition [] e = refl
begins_no_repetition (Star ∷ ls) e = cc
begins_no_repetition (Plus ∷ ls) e = cc
begins_no_repetition (_ ∷ ls) e = refl

-- a path so often, in an option
abbrev so_often : PathExpression → Repetition × List Lexeme → Option (PathExpression × List Lexeme)
so_often p r = Some (repeat_path r.0 p, r.1)

-- ---- from the cases

part_begins : {ls us : List Lexeme} {p : PathExpression} → IsPart ls p us → begins_path ls ≡ true
part_begins (part_name r) = refl
part_begins (part_branches b r) = refl
part_begins (part_row s r) = refl

pub path_begins : {ls us : List Lexeme} {ps : List PathExpression} → IsPath ls ps us → begins_path ls ≡ true
path_begins (last_part s) = part_begins s
path_begins (more_parts s t) = part_begins s

mutual
  to_part : {ls us : List Lexeme} {p : PathExpression} → IsPart ls p us → repeats us ≡ false → part_by (readers paths) ls ≡ Some (p, us)
  to_part (part_name {a = a} r) e = ap (so_often (attribute a)) (to_repetition r e)
  to_part (part_branches {bs = bs} b r) e = ap (λ (o : Option (List PathExpression × List Lexeme)). o >>= λ b. Some (repeated_path (one_of (expressions_from b.0)) b.1)) (to_paths b) ∙ ap (so_often (one_of (expressions_from bs))) (to_repetition r e)
  to_part (part_row {ps = ps} s r) e = ap (λ (o : Option (List PathExpression × List Lexeme)). o >>= λ p. closed_path p.0 p.1) (to_path s refl) ∙ ap (so_often (path_row ps)) (to_repetition r e)

  pub to_path : {ls us : List Lexeme} {ps : List PathExpression} → IsPath ls ps us → closes_term us ≡ true → (readers paths).row ls ≡ Some (ps, us)
  to_path (last_part {ls} {us} {p} s) e = row_last paths paths_down ls us p (to_part s (closes_no_repetition us e)) (closes_no_path us e)
  to_path (more_parts {ls} {us} {vs} {p} {ps} s t) e = row_more paths paths_down ls us vs p ps (to_part s (begins_no_repetition us (path_begins t))) (path_begins t) (to_path t e)

  to_paths : {ls us : List Lexeme} {bs : List PathExpression} → IsPathBranches ls bs us → (readers paths).branches ls ≡ Some (bs, us)
  to_paths (last_path {ls} {us} {ps} s) = branches_last paths paths_down ls us ps (to_path s refl)
  to_paths (more_paths {ls} {us} {vs} {ps} {bs} s b) = branches_more paths paths_down ls us vs ps bs (to_path s refl) (to_paths b)

-- ---- to the cases

repeated_at : (l : List Lexeme) (p : PathExpression) (ls us : List Lexeme) (x : PathExpression) → ((often : Repetition) (vs : List Lexeme) → IsRepetition ls often vs → IsPart l (repeat_path often p) vs)
    → so_often p (repetition_at ls) ≡ Some (x, us) → IsPart l x us
repeated_at l p ls us x part e = subst (λ (y : PathExpression × List Lexeme). IsPart l y.0 y.1) (same_some e) (part (repetition_at ls).0 (repetition_at ls).1 (from_repetition ls))

from_closed : (ls vs us : List Lexeme) (ps : List PathExpression) (x : PathExpression) → (readers paths).row ls ≡ Some (ps, vs) → closed_path ps vs ≡ Some (x, us)
    → ((ws : List Lexeme) → (readers paths).row ls ≡ Some (ps, CloseBracket ∷ ws) → IsPath ls ps (CloseBracket ∷ ws)) → IsPart (OpenBracket ∷ ls) x us
from_closed ls [] us ps x r e go = absurd (let no : ⊥ = cc in no)
from_closed ls (CloseBracket ∷ vs) us ps x r e go = repeated_at (OpenBracket ∷ ls) (path_row ps) vs us x (λ o ws q. part_row (go vs r) q) e
from_closed ls (_ ∷ vs) us ps x r e go = absurd (let no : ⊥ = cc in no)

from_row_cases : {ls us : List Lexeme} {ps : List PathExpression} → RowCases paths ls us ps → ((vs : List Lexeme) (p : PathExpression) → part_by (readers paths) ls ≡ Some (p, vs) → IsPart ls p vs)
    → ((vs : List Lexeme) (qs : List PathExpression) → length vs < length ls → (readers paths).row vs ≡ Some (qs, us) → IsPath vs qs us) → IsPath ls ps us
from_row_cases {ls} {us} (one {x} i) part path = last_part (part us x i)
from_row_cases {ls} {us} (more {x} {xs} vs i l r) part path = more_parts (part vs x i) (path vs xs l r)

from_branch_cases : {ls us : List Lexeme} {bs : List PathExpression} → BranchCases paths ls us bs → ((vs : List Lexeme) (ps : List PathExpression) → (readers paths).row ls ≡ Some (ps, vs) → IsPath ls ps vs)
    → ((vs : List Lexeme) (cs : List PathExpression) → length vs < length ls → (readers paths).branches vs ≡ Some (cs, us) → IsPathBranches vs cs us) → IsPathBranches ls bs us
from_branch_cases {ls} {us} (one_branch {xs} r) path branches = last_path (path (CloseBrace ∷ us) xs r)
from_branch_cases {ls} {us} (more_branch {xs} {bs} vs r l b) path branches = more_paths (path (Bar ∷ vs) xs r) (branches vs bs l b)

mutual
  from_part : (n : ℕ) (ls us : List Lexeme) (p : PathExpression) → 3 * length ls ≤ n → part_by (readers paths) ls ≡ Some (p, us) → IsPart ls p us
  from_part n [] us p l e = absurd (let no : ⊥ = cc in no)
  from_part n (Word a ∷ ls) us p l e = repeated_at (Word a ∷ ls) (attribute a) ls us p (λ o ws q. part_name q) e
  from_part zero (OpenBrace ∷ ls) us p l e = absurd (let no : ⊥ = omega arith in no)
  from_part (suc n) (OpenBrace ∷ ls) us p l e =
      let b = bound ((readers paths).branches ls) (λ b. Some (repeated_path (one_of (expressions_from b.0)) b.1)) (p, us) e in
      repeated_at (OpenBrace ∷ ls) (one_of (expressions_from b.0.0)) b.0.1 us p (λ o ws q. part_branches (from_paths n ls b.0.1 b.0.0 (omega arith) b.1) q) b.2
  from_part zero (OpenBracket ∷ ls) us p l e = absurd (let no : ⊥ = omega arith in no)
  from_part (suc n) (OpenBracket ∷ ls) us p l e =
      let b = bound ((readers paths).row ls) (λ p. closed_path p.0 p.1) (p, us) e in
      from_closed ls b.0.1 us b.0.0 p b.1 b.2 (λ ws r. from_path n ls (CloseBracket ∷ ws) b.0.0 (omega arith) r)
  from_part n (_ ∷ ls) us p l e = absurd (let no : ⊥ = cc in no)

  pub from_path : (n : ℕ) (ls us : List Lexeme) (ps : List PathExpression) → 3 * length ls + 1 ≤ n → (readers paths).row ls ≡ Some (ps, us) → IsPath ls ps us
  from_path zero ls us ps l e = absurd (let no : ⊥ = omega arith in no)
  from_path (suc n) ls us ps l e = from_row_cases (row_cases paths paths_down ls us ps e) (λ vs p i. from_part n ls vs p (omega arith) i) (λ vs qs k r. from_path n vs us qs (omega arith) r)

  from_paths : (n : ℕ) (ls us : List Lexeme) (bs : List PathExpression) → 3 * length ls + 2 ≤ n → (readers paths).branches ls ≡ Some (bs, us) → IsPathBranches ls bs us
  from_paths zero ls us bs l e = absurd (let no : ⊥ = omega arith in no)
  from_paths (suc n) ls us bs l e = from_branch_cases (branch_cases paths paths_down ls us bs e) (λ vs ps r. from_path n ls vs ps (omega arith) r) (λ vs cs k b. from_paths n vs us cs (omega arith) b)

pub path_from : (ls us : List Lexeme) (ps : List PathExpression) → (readers paths).row ls ≡ Some (ps, us) → IsPath ls ps us
path_from ls us ps e = from_path (3 * length ls + 1) ls us ps (omega arith) e

pub paths_by_cases : PathsByCases
paths_by_cases ls us ps c = (path_from ls us ps, λ p. to_path p c)
