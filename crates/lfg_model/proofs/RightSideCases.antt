-- Right sides are read as the cases say.
use Rattle.std.proofs.Common.{◌≡◌, ℕ, zero, suc, ◌<◌, ◌≤◌, ◌+◌, ◌*◌, Bool, true, false, cond, Option, Some, None, List, [], ◌∷◌, length, refl, ap, sym, ◌∙◌, subst, arith}
use Rattle.lfg_model.specs.declared.lexeme.Lexeme.{Lexeme}
use Rattle.lfg_model.specs.declared.lexeme.Lexeme.TheVariants.{Word, Open, Close, OpenBracket, CloseBracket, OpenBrace, CloseBrace, Bar, Star, Plus, Semicolon, Colon}
use Rattle.lfg_model.specs.declared.notation.Repetition.{Repetition}
use Rattle.lfg_model.specs.Terms.{Name}
use Rattle.lfg_model.specs.RightSides.{DraftSchema, RightSide, item, optional, one_of, right_sides_from}
use Rattle.lfg_model.specs.Nests.{◌>>=◌, readers}
use Rattle.lfg_model.specs.PathNotation.{repetition_at}
use Rattle.lfg_model.specs.SchemaNotation.{schemata}
use Rattle.lfg_model.specs.RightSideNotation.{repeat_side, ended_term, repeated_term, side_row, closes_term, annotated_term, annotated, behind_category, closed_optional, closed_row, term_by, begins_term, terms}
use Rattle.lfg_model.specs.NotationCases.{IsRepetition, IsAnnotation, IsEnd, semicolon, no_semicolon, IsTerm, category, annotated_ended, annotated_last, optional_terms, term_branches, term_row, IsTerms, last_term, more_terms, IsTermBranches, last_terms, more_branches, closes_annotation, RightSidesByCases}
use Rattle.lfg_model.proofs.NestCases.{same_some, bound, row_last, row_more, branches_last, branches_more, RowCases, one, more, row_cases, BranchCases, one as one_branch, more as more_branch, branch_cases}
use Rattle.lfg_model.proofs.PathCases.{repeats, to_repetition, from_repetition}
use Rattle.lfg_model.proofs.SchemaCases.{to_annotation, annotation_from}
use Rattle.lfg_model.proofs.RightSideNotationLaws.{terms_down}

-- ---- from the cases

-- what would go on with a term that has no semicolon
abbrev goes_on : List Lexeme → Bool
goes_on (Star ∷ ls) = true
goes_on (Plus ∷ ls) = true
goes_on (Colon ∷ ls) = true
goes_on (Semicolon ∷ ls) = true
goes_on ls = false

closes_all : (ls : List Lexeme) → closes_term ls ≡ true → goes_on ls ≡ false
closes_all [] e = refl
closes_all (Star ∷ ls) e = cc
closes_all (Plus ∷ ls) e = cc
closes_all (Colon ∷ ls) e = cc
closes_all (Semicolon ∷ ls) e = cc
closes_all (_ ∷ ls) e = refl

closes_no_term : (ls : List Lexeme) → closes_term ls ≡ true → begins_term ls ≡ false
closes_no_term [] e = refl
closes_no_term (Word a ∷ ls) e = cc
closes_no_term (Open ∷ ls) e = cc
closes_no_term (OpenBrace ∷ ls) e = cc
closes_no_term (OpenBracket ∷ ls) e = cc
closes_no_term (_ ∷ ls) e = refl

begins_anew : (ls : List Lexeme) → begins_term ls ≡ true → goes_on ls ≡ false
begins_anew [] e = refl
begins_anew (Star ∷ ls) e = cc
begins_anew (Plus ∷ ls) e = cc
begins_anew (Colon ∷ ls) e = cc
begins_anew (Semicolon ∷ ls) e = cc
begins_anew (_ ∷ ls) e = refl

closes_schemata : (ls : List Lexeme) → closes_term ls ≡ true → closes_annotation ls ≡ true
closes_schemata [] e = refl
closes_schemata (Semicolon ∷ ls) e = refl
closes_schemata (_ ∷ ls) e = e

closes_annotated : (x : RightSide) (ls : List Lexeme) → closes_term ls ≡ true → annotated_term x ls ≡ Some (x, ls)
closes_annotated x [] e = refl
closes_annotated x (Semicolon ∷ ls) e = cc
closes_annotated x (Close ∷ ls) e = refl
closes_annotated x (CloseBracket ∷ ls) e = refl
closes_annotated x (CloseBrace ∷ ls) e = refl
closes_annotated x (Bar ∷ ls) e = refl
closes_annotated x (_ ∷ ls) e = cc

no_end : (x : RightSide) (ls : List Lexeme) → goes_on ls ≡ false → ended_term x ls ≡ (x, ls)
no_end x [] e = refl
no_end x (Semicolon ∷ ls) e = cc
no_end x (_ ∷ ls) e = refl

to_end : {ls us : List Lexeme} (x : RightSide) → IsEnd ls us → goes_on us ≡ false → ended_term x ls ≡ (x, us)
to_end x semicolon e = refl
to_end x (no_semicolon {ls}) e = no_end x ls e

no_repetition : (ls : List Lexeme) → goes_on ls ≡ false → repeats ls ≡ false
no_repetition [] e = refl
no_repetition (Star ∷ ls) e = cc
no_repetition (Plus ∷ ls) e = cc
no_repetition (_ ∷ ls) e = refl

end_no_repetition : {ls us : List Lexeme} → IsEnd ls us → goes_on us ≡ false → repeats ls ≡ false
end_no_repetition semicolon e = refl
end_no_repetition (no_semicolon {ls}) e = no_repetition ls e

-- a category without an annotation, in an option
abbrev bare : Name → Repetition → List Lexeme → Option (RightSide × List Lexeme)
bare c often ls = Some (ended_term (repeat_side often (item c None)) ls)

no_colon : (c : Name) (often : Repetition) (ls : List Lexeme) → goes_on ls ≡ false → behind_category c often ls ≡ bare c often ls
no_colon c often [] e = refl
no_colon c often (Colon ∷ ls) e = cc
no_colon c often (_ ∷ ls) e = refl

end_no_colon : {ls us : List Lexeme} (c : Name) (often : Repetition) → IsEnd ls us → goes_on us ≡ false → behind_category c often ls ≡ bare c often ls
end_no_colon c often semicolon e = refl
end_no_colon c often (no_semicolon {ls}) e = no_colon c often ls e

-- a term so often, with its end, in an option
abbrev ended_often : RightSide → Repetition × List Lexeme → Option (RightSide × List Lexeme)
ended_often x r = Some (ended_term (repeat_side r.0 x) r.1)

abbrev in_some : RightSide × List Lexeme → Option (RightSide × List Lexeme)
in_some x = Some x

term_begins : {ls us : List Lexeme} {x : RightSide} → IsTerm ls x us → begins_term ls ≡ true
term_begins (category r e) = refl
term_begins (annotated_ended r a) = refl
term_begins (annotated_last r a c) = refl
term_begins (optional_terms t e) = refl
term_begins (term_branches b r e) = refl
term_begins (term_row t r e) = refl

terms_begin : {ls us : List Lexeme} {xs : List RightSide} → IsTerms ls xs us → begins_term ls ≡ true
terms_begin (last_term t) = term_begins t
terms_begin (more_terms t r) = term_begins t

mutual
  to_term : {ls us : List Lexeme} {x : RightSide} → IsTerm ls x us → goes_on us ≡ false → term_by (readers terms) ls ≡ Some (x, us)
  to_term (category {c} {often} r h) e = ap (λ (q : Repetition × List Lexeme). behind_category c q.0 q.1) (to_repetition r (end_no_repetition h e))
      ∙ end_no_colon c often h e ∙ ap in_some (to_end (repeat_side often (item c None)) h e)
  to_term (annotated_ended {c} {often} r a) e = ap (λ (q : Repetition × List Lexeme). behind_category c q.0 q.1) (to_repetition r refl)
      ∙ ap (λ (o : Option (List DraftSchema × List Lexeme)). o >>= λ a. annotated_term (repeat_side often (annotated c a.0)) a.1) (to_annotation a refl)
  to_term (annotated_last {c} {often} {ss} {vs = vs} r a h) e = ap (λ (q : Repetition × List Lexeme). behind_category c q.0 q.1) (to_repetition r refl)
      ∙ ap (λ (o : Option (List DraftSchema × List Lexeme)). o >>= λ a. annotated_term (repeat_side often (annotated c a.0)) a.1) (to_annotation a (closes_schemata vs h))
      ∙ closes_annotated (repeat_side often (annotated c ss)) vs h
  to_term (optional_terms {xs} t h) e = ap (λ (o : Option (List RightSide × List Lexeme)). o >>= λ s. closed_optional s.0 s.1) (to_terms t refl) ∙ ap in_some (to_end (optional (side_row xs)) h e)
  to_term (term_branches {bs} {often} b r h) e = ap (λ (o : Option (List RightSide × List Lexeme)). o >>= λ b. Some (repeated_term (one_of (right_sides_from b.0)) b.1)) (to_branches b)
      ∙ ap (ended_often (one_of (right_sides_from bs))) (to_repetition r (end_no_repetition h e)) ∙ ap in_some (to_end (repeat_side often (one_of (right_sides_from bs))) h e)
  to_term (term_row {xs} {often} t r h) e = ap (λ (o : Option (List RightSide × List Lexeme)). o >>= λ s. closed_row s.0 s.1) (to_terms t refl)
      ∙ ap (ended_often (side_row xs)) (to_repetition r (end_no_repetition h e)) ∙ ap in_some (to_end (repeat_side often (side_row xs)) h e)

  pub to_terms : {ls us : List Lexeme} {xs : List RightSide} → IsTerms ls xs us → closes_term us ≡ true → (readers terms).row ls ≡ Some (xs, us)
  to_terms (last_term {x} {ls} {us} t) e = row_last terms terms_down ls us x (to_term t (closes_all us e)) (closes_no_term us e)
  to_terms (more_terms {x} {xs} {ls} {us} {vs} t r) e = row_more terms terms_down ls us vs x xs (to_term t (begins_anew us (terms_begin r))) (terms_begin r) (to_terms r e)

  to_branches : {ls us : List Lexeme} {bs : List RightSide} → IsTermBranches ls bs us → (readers terms).branches ls ≡ Some (bs, us)
  to_branches (last_terms {xs} {ls} {us} t) = branches_last terms terms_down ls us xs (to_terms t refl)
  to_branches (more_branches {xs} {bs} {ls} {us} {vs} t b) = branches_more terms terms_down ls us vs xs bs (to_terms t refl) (to_branches b)

-- ---- to the cases

ended_at : (k : List Lexeme) (x : RightSide) (ls us : List Lexeme) (y : RightSide) → ((vs : List Lexeme) → IsEnd ls vs → IsTerm k x vs) → in_some (ended_term x ls) ≡ Some (y, us) → IsTerm k y us
ended_at k x [] us y go e = subst (λ (z : RightSide × List Lexeme). IsTerm k z.0 z.1) (same_some e) (go [] no_semicolon)
ended_at k x (Semicolon ∷ ls) us y go e = subst (λ (z : RightSide × List Lexeme). IsTerm k z.0 z.1) (same_some e) (go ls semicolon)
ended_at k x (l ∷ ls) us y go e = subst (λ (z : RightSide × List Lexeme). IsTerm k z.0 z.1) (same_some e) (go (l ∷ ls) no_semicolon)

repeated_at : (k : List Lexeme) (x : RightSide) (ls us : List Lexeme) (y : RightSide) → ((often : Repetition) (vs ws : List Lexeme) → IsRepetition ls often vs → IsEnd vs ws → IsTerm k (repeat_side often x) ws)
    → ended_often x (repetition_at ls) ≡ Some (y, us) → IsTerm k y us
repeated_at k x ls us y go e = ended_at k (repeat_side (repetition_at ls).0 x) (repetition_at ls).1 us y (λ vs h. go (repetition_at ls).0 (repetition_at ls).1 vs (from_repetition ls) h) e

-- an annotation before the closing, in an option
abbrev if_closed : Bool → RightSide → List Lexeme → Option (RightSide × List Lexeme)
if_closed b x ls = cond b (Some (x, ls)) None

closed_at : (b : Bool) (c : Name) (often : Repetition) (ls vs ws us : List Lexeme) (ss : List DraftSchema) (y : RightSide) → IsRepetition ls often (Colon ∷ vs) → IsAnnotation vs ss ws → b ≡ closes_term ws
    → if_closed b (repeat_side often (annotated c ss)) ws ≡ Some (y, us) → IsTerm (Word c ∷ ls) y us
closed_at true c often ls vs ws us ss y r a q e = subst (λ (z : RightSide × List Lexeme). IsTerm (Word c ∷ ls) z.0 z.1) (same_some e) (annotated_last r a (sym q))
closed_at false c often ls vs ws us ss y r a q e = absurd (let no : ⊥ = cc in no)

annotated_at : (c : Name) (often : Repetition) (ls vs ws us : List Lexeme) (ss : List DraftSchema) (y : RightSide) → IsRepetition ls often (Colon ∷ vs) → IsAnnotation vs ss ws
    → annotated_term (repeat_side often (annotated c ss)) ws ≡ Some (y, us) → IsTerm (Word c ∷ ls) y us
annotated_at c often ls vs [] us ss y r a e = closed_at (closes_term []) c often ls vs [] us ss y r a refl e
annotated_at c often ls vs (Semicolon ∷ ws) us ss y r a e = subst (λ (z : RightSide × List Lexeme). IsTerm (Word c ∷ ls) z.0 z.1) (same_some e) (annotated_ended r a)
annotated_at c often ls vs (l ∷ ws) us ss y r a e = closed_at (closes_term (l ∷ ws)) c often ls vs (l ∷ ws) us ss y r a refl e

from_category : (c : Name) (often : Repetition) (ls vs us : List Lexeme) (y : RightSide) → IsRepetition ls often vs → behind_category c often vs ≡ Some (y, us) → IsTerm (Word c ∷ ls) y us
from_category c often ls [] us y r e = ended_at (Word c ∷ ls) (repeat_side often (item c None)) [] us y (λ ws h. category r h) e
from_category c often ls (Colon ∷ vs) us y r e =
    let b = bound ((readers schemata).row vs) (λ a. annotated_term (repeat_side often (annotated c a.0)) a.1) (y, us) e in
    annotated_at c often ls vs b.0.1 us b.0.0 y r (annotation_from vs b.0.1 b.0.0 b.1) b.2
from_category c often ls (l ∷ vs) us y r e = ended_at (Word c ∷ ls) (repeat_side often (item c None)) (l ∷ vs) us y (λ ws h. category r h) e

from_optional : (ls vs us : List Lexeme) (xs : List RightSide) (y : RightSide) → (readers terms).row ls ≡ Some (xs, vs) → closed_optional xs vs ≡ Some (y, us)
    → ((ws : List Lexeme) → (readers terms).row ls ≡ Some (xs, ws) → IsTerms ls xs ws) → IsTerm (Open ∷ ls) y us
from_optional ls [] us xs y r e go = absurd (let no : ⊥ = cc in no)
from_optional ls (Close ∷ vs) us xs y r e go = ended_at (Open ∷ ls) (optional (side_row xs)) vs us y (λ ws h. optional_terms (go (Close ∷ vs) r) h) e
from_optional ls (_ ∷ vs) us xs y r e go = absurd (let no : ⊥ = cc in no)

from_bracketed : (ls vs us : List Lexeme) (xs : List RightSide) (y : RightSide) → (readers terms).row ls ≡ Some (xs, vs) → closed_row xs vs ≡ Some (y, us)
    → ((ws : List Lexeme) → (readers terms).row ls ≡ Some (xs, ws) → IsTerms ls xs ws) → IsTerm (OpenBracket ∷ ls) y us
from_bracketed ls [] us xs y r e go = absurd (let no : ⊥ = cc in no)
from_bracketed ls (CloseBracket ∷ vs) us xs y r e go = repeated_at (OpenBracket ∷ ls) (side_row xs) vs us y (λ often ws zs q h. term_row (go (CloseBracket ∷ vs) r) q h) e
from_bracketed ls (_ ∷ vs) us xs y r e go = absurd (let no : ⊥ = cc in no)

from_row_cases : {ls us : List Lexeme} {xs : List RightSide} → RowCases terms ls us xs → ((vs : List Lexeme) (x : RightSide) → term_by (readers terms) ls ≡ Some (x, vs) → IsTerm ls x vs)
    → ((vs : List Lexeme) (ys : List RightSide) → length vs < length ls → (readers terms).row vs ≡ Some (ys, us) → IsTerms vs ys us) → IsTerms ls xs us
from_row_cases {ls} {us} (one {x} i) term row = last_term (term us x i)
from_row_cases {ls} {us} (more {x} {xs} vs i l r) term row = more_terms (term vs x i) (row vs xs l r)

from_branch_cases : {ls us : List Lexeme} {bs : List RightSide} → BranchCases terms ls us bs → ((vs : List Lexeme) (xs : List RightSide) → (readers terms).row ls ≡ Some (xs, vs) → IsTerms ls xs vs)
    → ((vs : List Lexeme) (cs : List RightSide) → length vs < length ls → (readers terms).branches vs ≡ Some (cs, us) → IsTermBranches vs cs us) → IsTermBranches ls bs us
from_branch_cases {ls} {us} (one_branch {xs} r) row branches = last_terms (row (CloseBrace ∷ us) xs r)
from_branch_cases {ls} {us} (more_branch {xs} {bs} vs r l b) row branches = more_branches (row (Bar ∷ vs) xs r) (branches vs bs l b)

mutual
  from_term : (n : ℕ) (ls us : List Lexeme) (x : RightSide) → 3 * length ls ≤ n → term_by (readers terms) ls ≡ Some (x, us) → IsTerm ls x us
  from_term n [] us x l e = absurd (let no : ⊥ = cc in no)
  from_term n (Word c ∷ ls) us x l e = from_category c (repetition_at ls).0 ls (repetition_at ls).1 us x (from_repetition ls) e
  from_term zero (Open ∷ ls) us x l e = absurd (let no : ⊥ = omega arith in no)
  from_term (suc n) (Open ∷ ls) us x l e =
      let b = bound ((readers terms).row ls) (λ s. closed_optional s.0 s.1) (x, us) e in
      from_optional ls b.0.1 us b.0.0 x b.1 b.2 (λ ws r. from_terms n ls ws b.0.0 (omega arith) r)
  from_term zero (OpenBrace ∷ ls) us x l e = absurd (let no : ⊥ = omega arith in no)
  from_term (suc n) (OpenBrace ∷ ls) us x l e =
      let b = bound ((readers terms).branches ls) (λ b. Some (repeated_term (one_of (right_sides_from b.0)) b.1)) (x, us) e in
      repeated_at (OpenBrace ∷ ls) (one_of (right_sides_from b.0.0)) b.0.1 us x (λ often ws zs q h. term_branches (from_branches n ls b.0.1 b.0.0 (omega arith) b.1) q h) b.2
  from_term zero (OpenBracket ∷ ls) us x l e = absurd (let no : ⊥ = omega arith in no)
  from_term (suc n) (OpenBracket ∷ ls) us x l e =
      let b = bound ((readers terms).row ls) (λ s. closed_row s.0 s.1) (x, us) e in
      from_bracketed ls b.0.1 us b.0.0 x b.1 b.2 (λ ws r. from_terms n ls ws b.0.0 (omega arith) r)
  from_term n (_ ∷ ls) us x l e = absurd (let no : ⊥ = cc in no)

  from_terms : (n : ℕ) (ls us : List Lexeme) (xs : List RightSide) → 3 * length ls + 1 ≤ n → (readers terms).row ls ≡ Some (xs, us) → IsTerms ls xs us
  from_terms zero ls us xs l e = absurd (let no : ⊥ = omega arith in no)
  from_terms (suc n) ls us xs l e = from_row_cases (row_cases terms terms_down ls us xs e) (λ vs x i. from_term n ls vs x (omega arith) i) (λ vs ys k r. from_terms n vs us ys (omega arith) r)

  from_branches : (n : ℕ) (ls us : List Lexeme) (bs : List RightSide) → 3 * length ls + 2 ≤ n → (readers terms).branches ls ≡ Some (bs, us) → IsTermBranches ls bs us
  from_branches zero ls us bs l e = absurd (let no : ⊥ = omega arith in no)
  from_branches (suc n) ls us bs l e = from_branch_cases (branch_cases terms terms_down ls us bs e) (λ vs xs r. from_terms n ls vs xs (omega arith) r) (λ vs cs k b. from_branches n vs us cs (omega arith) b)

pub terms_from : (ls us : List Lexeme) (xs : List RightSide) → (readers terms).row ls ≡ Some (xs, us) → IsTerms ls xs us
terms_from ls us xs e = from_terms (3 * length ls + 1) ls us xs (omega arith) e

pub right_sides_by_cases : RightSidesByCases
right_sides_by_cases ls us xs c = (terms_from ls us xs, λ t. to_terms t c)
