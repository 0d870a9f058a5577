-- Annotations are read as the cases say.
use Rattle.std.proofs.Common.{◌≡◌, ℕ, zero, suc, ◌<◌, ◌≤◌, ◌+◌, ◌*◌, Bool, true, false, cond, Option, Some, None, List, [], ◌∷◌, length, refl, ap, sym, ◌∙◌, subst, arith, codes}
use Rattle.std.specs.Cmp.Lexicographic.{same_text}
use Rattle.lfg_terms.specs.declared.grammar.Arrow.{Arrow}
use Rattle.lfg_terms.specs.declared.grammar.Arrow.TheVariants as arrow
use Rattle.lfg_terms.specs.declared.grammar.Des.{Des}
use Rattle.lfg_terms.specs.declared.grammar.Form.{Form}
use Rattle.lfg_terms.specs.declared.grammar.Val.{Val}
use Rattle.lfg_terms.specs.declared.grammar.Val.TheVariants as val
use Rattle.lfg_model.specs.declared.lexeme.Lexeme.{Lexeme}
use Rattle.lfg_model.specs.declared.lexeme.Lexeme.TheVariants.{Word, Open, Close, OpenBrace, CloseBrace, Bar, Less as LessSign, Greater, Quote, Up, Down, Equals, Constrains, Differs, Not, Dollar, At, Star, Plus, Minus, DoubleColon}
use Rattle.lfg_model.specs.Terms.{Name, same_name}
use Rattle.lfg_model.specs.PathExpressions.{PathExpression}
use Rattle.lfg_model.specs.RightSides.{DraftSchema, define, constrain, exists, member, mark, either, DraftAnnotation, draft_branches_from}
use Rattle.lfg_model.specs.Nests.{◌>>=◌, readers}
use Rattle.lfg_model.specs.PathNotation.{begins_path, paths}
use Rattle.lfg_model.specs.SchemaNotation.{Left, bare_des, long_des, bare_left, long_left, ends_in_pred, closed_left, long_at, begins_long, begins_des, des_at, value_at, put_name, values_at, test_at, form_of, put_function, functions_at, function_arrow, function_name, function_end, quoted, behind_inner, behind_form_name, form_at, right_at, left_alone, behind_left, negated_at, mark_at, closed_call, call_in_brackets, call_at, closed_option, schema_by, begins_schema, schemata}
use Rattle.lfg_model.specs.NotationCases.{IsPath, IsArrow, up, down, IsLong, long, IsDes, bare_arrow, with_path, IsValue, value_name, value_plus, value_minus, IsValues, no_value, more_values, IsTest, test_des, test_value, IsFunctions, no_function, more_functions, IsForm, bare_form, form_with, IsSchema, defines, defines_form, constrains, differs, leads, leads_nowhere, belongs, marks, alternatives, optional_schemata, calls, calls_with, IsAnnotation, last_schema, more_schemata, IsAlternatives, last_annotation, more_annotations, closes_annotation, AnnotationsByCases}
use Rattle.lfg_model.proofs.NestCases.{same_some, bound, row_last, row_more, branches_last, branches_more, RowCases, one, more, row_cases, BranchCases, one as one_branch, more as more_branch, branch_cases}
use Rattle.lfg_model.proofs.PathCases.{path_begins, to_path, path_from}
use Rattle.lfg_model.proofs.SchemaNotationLaws.{schemata_down}

-- ---- from the cases: designators, values and forms

to_long : {l : Lexeme} {a : Arrow} {ls us : List Lexeme} {ps : List PathExpression} → IsArrow l a → IsPath ls ps (Close ∷ us) → long_at (l ∷ ls) ≡ Some (long_left a ps, us)
to_long up p = ap (λ (o : Option (List PathExpression × List Lexeme)). o >>= λ p. closed_left arrow.Up p.0 p.1) (to_path p refl)
to_long down p = ap (λ (o : Option (List PathExpression × List Lexeme)). o >>= λ p. closed_left arrow.Down p.0 p.1) (to_path p refl)

long_begins : {l : Lexeme} {a : Arrow} {ls us : List Lexeme} {ps : List PathExpression} → IsArrow l a → IsPath ls ps us → begins_long (l ∷ ls) ≡ true
long_begins up p = path_begins p
long_begins down p = path_begins p

to_des : {ls us : List Lexeme} {d : Des PathExpression} → IsDes ls d us → des_at ls ≡ Some (d, us)
to_des (bare_arrow up) = refl
to_des (bare_arrow down) = refl
to_des (with_path (long a p)) = ap (λ (o : Option (Left × List Lexeme)). o >>= λ l. Some (l.0.des, l.1)) (to_long a p)

to_test : {ls us : List Lexeme} {v : Val PathExpression} → IsTest ls v us → test_at ls ≡ Some (v, us)
to_test (test_des (bare_arrow up)) = refl
to_test (test_des (bare_arrow down)) = refl
to_test (test_des (with_path (long a p))) = ap (λ (o : Option (Des PathExpression × List Lexeme)). o >>= λ d. Some (val.Des d.0, d.1)) (to_des (with_path (long a p)))
to_test (test_value value_name) = refl
to_test (test_value value_plus) = refl
to_test (test_value value_minus) = refl

-- a test is no form
no_form : {ls us : List Lexeme} {v : Val PathExpression} (b : Bool) → IsTest ls v us → right_at b ls ≡ test_at ls
no_form b (test_des (bare_arrow up)) = refl
no_form b (test_des (bare_arrow down)) = refl
no_form b (test_des (with_path (long a p))) = refl
no_form b (test_value value_name) = refl
no_form b (test_value value_plus) = refl
no_form b (test_value value_minus) = refl

to_values : {ls us : List Lexeme} {values : List Name} → IsValues ls values us → values_at us ≡ ([], us) → values_at ls ≡ (values, us)
to_values no_value e = e
to_values (more_values {a = a} value_name r) e = ap (put_name a) (to_values r e)
to_values (more_values {a = a} value_plus r) e = ap (put_name a) (to_values r e)
to_values (more_values {a = a} value_minus r) e = ap (put_name a) (to_values r e)

to_functions : {ls us : List Lexeme} {functions : List Name} → IsFunctions ls functions us → functions_at us ≡ Some ([], us) → functions_at ls ≡ Some (functions, us)
to_functions no_function e = e
to_functions (more_functions {a = a} r) e = ap (put_function a) (to_functions r e)

to_value : {l : Lexeme} {a : Name} → IsValue l a → (ls : List Lexeme) → value_at (l ∷ ls) ≡ Some (a, ls)
to_value value_name ls = refl
to_value value_plus ls = refl
to_value value_minus ls = refl

to_form : {ls us : List Lexeme} {f : Form} → IsForm ls f us → form_at ls ≡ Some (f, us)
to_form (bare_form {ls = ls} v) = ap (λ (o : Option (Name × List Lexeme)). o >>= λ v. behind_form_name v.0 v.1) (to_value v (Quote ∷ ls))
to_form (form_with {a = a} {inner = inner} {ls = ls} v i o) =
    ap (λ (o : Option (Name × List Lexeme)). o >>= λ v. behind_form_name v.0 v.1) (to_value v (LessSign ∷ ls))
    ∙ ap (λ (o : Option (List Name × List Lexeme)). o >>= λ i. behind_inner a i.0 i.1) (to_functions i refl)
    ∙ ap (λ (o : Option (List Name × List Lexeme)). o >>= λ o. quoted (form_of a inner o.0) o.1) (to_functions o refl)

-- ---- from the cases: schemata

-- a sign that relates a designator to something
abbrev relates : List Lexeme → Bool
relates (Equals ∷ ls) = true
relates (Constrains ∷ ls) = true
relates (Differs ∷ ls) = true
relates (Dollar ∷ ls) = true
relates ls = false

stays_alone : (left : Left) (ls : List Lexeme) → relates ls ≡ false → behind_left left ls ≡ left_alone left ls
stays_alone left [] e = refl
stays_alone left (Equals ∷ ls) e = cc
stays_alone left (Constrains ∷ ls) e = cc
stays_alone left (Differs ∷ ls) e = cc
stays_alone left (Dollar ∷ ls) e = cc
stays_alone left (_ ∷ ls) e = refl

closes_alone : (ls : List Lexeme) → closes_annotation ls ≡ true → relates ls ≡ false
closes_alone [] e = refl
closes_alone (Equals ∷ ls) e = cc
closes_alone (Constrains ∷ ls) e = cc
closes_alone (Differs ∷ ls) e = cc
closes_alone (Dollar ∷ ls) e = cc
closes_alone (_ ∷ ls) e = refl

closes_no_schema : (ls : List Lexeme) → closes_annotation ls ≡ true → begins_schema ls ≡ false
closes_no_schema [] e = refl
closes_no_schema (Up ∷ ls) e = cc
closes_no_schema (Down ∷ ls) e = cc
closes_no_schema (Open ∷ ls) e = cc
closes_no_schema (Not ∷ ls) e = cc
closes_no_schema (Word a ∷ ls) e = cc
closes_no_schema (At ∷ ls) e = cc
closes_no_schema (OpenBrace ∷ ls) e = cc
closes_no_schema (_ ∷ ls) e = refl

begins_alone : (ls : List Lexeme) → begins_schema ls ≡ true → relates ls ≡ false
begins_alone [] e = refl
begins_alone (Equals ∷ ls) e = cc
begins_alone (Constrains ∷ ls) e = cc
begins_alone (Differs ∷ ls) e = cc
begins_alone (Dollar ∷ ls) e = cc
begins_alone (_ ∷ ls) e = refl

des_begins : {ls us : List Lexeme} {d : Des PathExpression} → IsDes ls d us → begins_schema ls ≡ true
des_begins (bare_arrow up) = refl
des_begins (bare_arrow down) = refl
des_begins (with_path (long a p)) = refl

long_begins_schema : {ls us : List Lexeme} {a : Arrow} {ps : List PathExpression} → IsLong ls a ps us → begins_schema ls ≡ true
long_begins_schema (long a p) = refl

schema_begins : {ls us : List Lexeme} {s : DraftSchema} → IsSchema ls s us → begins_schema ls ≡ true
schema_begins (defines d t) = des_begins d
schema_begins (defines_form l e f) = long_begins_schema l
schema_begins (constrains d t) = des_begins d
schema_begins (differs d t) = des_begins d
schema_begins (leads l) = long_begins_schema l
schema_begins (leads_nowhere l) = refl
schema_begins (belongs d e) = des_begins d
schema_begins marks = refl
schema_begins (alternatives b) = refl
schema_begins (optional_schemata a) = refl
schema_begins calls = refl
schema_begins (calls_with v) = refl

annotation_begins : {ls us : List Lexeme} {ss : List DraftSchema} → IsAnnotation ls ss us → begins_schema ls ≡ true
annotation_begins (last_schema s) = schema_begins s
annotation_begins (more_schemata s t) = schema_begins s

-- a schema does not begin with an arrow and a path
des_not_long : {ls us : List Lexeme} {d : Des PathExpression} → IsDes ls d us → begins_path us ≡ false → begins_long ls ≡ false
des_not_long (bare_arrow up) e = e
des_not_long (bare_arrow down) e = e
des_not_long (with_path (long a p)) e = refl

long_not_long : {ls us : List Lexeme} {a : Arrow} {ps : List PathExpression} → IsLong ls a ps us → begins_long ls ≡ false
long_not_long (long a p) = refl

schema_not_long : {ls us : List Lexeme} {s : DraftSchema} → IsSchema ls s us → begins_long ls ≡ false
schema_not_long (defines d t) = des_not_long d refl
schema_not_long (defines_form l e f) = long_not_long l
schema_not_long (constrains d t) = des_not_long d refl
schema_not_long (differs d t) = des_not_long d refl
schema_not_long (leads l) = long_not_long l
schema_not_long (leads_nowhere l) = refl
schema_not_long (belongs d e) = des_not_long d refl
schema_not_long marks = refl
schema_not_long (alternatives b) = refl
schema_not_long (optional_schemata a) = refl
schema_not_long calls = refl
schema_not_long (calls_with v) = refl

annotation_not_long : {ls us : List Lexeme} {ss : List DraftSchema} → IsAnnotation ls ss us → begins_long ls ≡ false
annotation_not_long (last_schema s) = schema_not_long s
annotation_not_long (more_schemata s t) = schema_not_long s

-- what begins with a designator with a path is read behind it
behind_long : {ls us : List Lexeme} {a : Arrow} {ps : List PathExpression} → IsLong ls a ps us → schema_by (readers schemata) ls ≡ behind_left (long_left a ps) us
behind_long (long {l = l} {ls = ls} a p) =
    ap (λ (b : Bool). cond b (long_at (l ∷ ls) >>= λ l. behind_left l.0 l.1) ((readers schemata).row (l ∷ ls) >>= λ s. closed_option s.0 s.1)) (long_begins a p)
    ∙ ap (λ (o : Option (Left × List Lexeme)). o >>= λ l. behind_left l.0 l.1) (to_long a p)

-- what a schema begins with, so read
record Begins (ls : List Lexeme) (d : Des PathExpression) (us : List Lexeme) : Type 0 where
  left : Left
  des : left.des ≡ d
  reads : schema_by (readers schemata) ls ≡ behind_left left us

begins_with : {ls us : List Lexeme} {d : Des PathExpression} → IsDes ls d us → Begins ls d us
begins_with (bare_arrow up) = record { left = bare_left arrow.Up; des = refl; reads = refl }
begins_with (bare_arrow down) = record { left = bare_left arrow.Down; des = refl; reads = refl }
begins_with (with_path {a} {ps = ps} l) = record { left = long_left a ps; des = refl; reads = behind_long l }

abbrev related : (Des PathExpression → Val PathExpression → DraftSchema) → Des PathExpression → Option (Val PathExpression × List Lexeme) → Option (DraftSchema × List Lexeme)
related f d o = o >>= λ v. Some (f d v.0, v.1)

mutual
  to_schema : {ls us : List Lexeme} {s : DraftSchema} → IsSchema ls s us → relates us ≡ false → schema_by (readers schemata) ls ≡ Some (s, us)
  to_schema (defines {d = d} {v = v} {us = us} {vs = vs} h t) e = let b = begins_with h in
      b.reads ∙ ap (λ (o : Option (Val PathExpression × List Lexeme)). related define b.left.des o) (no_form b.left.is_pred t ∙ to_test t) ∙ ap (λ (c : Des PathExpression). related define c (Some (v, vs))) b.des
  to_schema (defines_form {a} {ps} {f} {us = us} {vs = vs} l p h) e =
      behind_long l ∙ ap (λ (b : Bool). related define (long_des a ps) (cond b (form_at us >>= λ f. Some (val.Form f.0, f.1)) None)) p
      ∙ ap (λ (o : Option (Form × List Lexeme)). related define (long_des a ps) (o >>= λ f. Some (val.Form f.0, f.1))) (to_form h)
  to_schema (constrains {d = d} {v = v} {us = us} {vs = vs} h t) e = let b = begins_with h in
      b.reads ∙ ap (λ (o : Option (Val PathExpression × List Lexeme)). related (constrain false) b.left.des o) (to_test t) ∙ ap (λ (c : Des PathExpression). related (constrain false) c (Some (v, vs))) b.des
  to_schema (differs {d = d} {v = v} {us = us} {vs = vs} h t) e = let b = begins_with h in
      b.reads ∙ ap (λ (o : Option (Val PathExpression × List Lexeme)). related (constrain true) b.left.des o) (to_test t) ∙ ap (λ (c : Des PathExpression). related (constrain true) c (Some (v, vs))) b.des
  to_schema (leads {a} {ps} {us = us} l) e = behind_long l ∙ stays_alone (long_left a ps) us e
  to_schema (leads_nowhere (long a p)) e = ap (λ (o : Option (Left × List Lexeme)). o >>= λ l. Some (exists true l.0.des, l.1)) (to_long a p)
  to_schema (belongs {d = d} {e = g} {vs = vs} h t) e = let b = begins_with h in
      b.reads ∙ ap (λ (o : Option (Des PathExpression × List Lexeme)). o >>= λ x. Some (member b.left.des x.0, x.1)) (to_des t) ∙ ap (λ (c : Des PathExpression). let o : Option (DraftSchema × List Lexeme) = Some (member c g, vs) in o) b.des
  to_schema marks e = refl
  to_schema (alternatives b) e = ap (λ (o : Option (List DraftAnnotation × List Lexeme)). o >>= λ b. Some (either (draft_branches_from b.0), b.1)) (to_alternatives b)
  to_schema (optional_schemata {ls = ls} a) e =
      ap (λ (b : Bool). cond b (long_at ls >>= λ l. behind_left l.0 l.1) ((readers schemata).row ls >>= λ s. closed_option s.0 s.1)) (annotation_not_long a)
      ∙ ap (λ (o : Option (List DraftSchema × List Lexeme)). o >>= λ s. closed_option s.0 s.1) (to_annotation a refl)
  to_schema calls e = refl
  to_schema (calls_with {a = a} v) e = ap (λ (r : List Name × List Lexeme). closed_call a r.0 r.1) (to_values v refl)

  pub to_annotation : {ls us : List Lexeme} {ss : List DraftSchema} → IsAnnotation ls ss us → closes_annotation us ≡ true → (readers schemata).row ls ≡ Some (ss, us)
  to_annotation (last_schema {s} {ls} {us} h) e = row_last schemata schemata_down ls us s (to_schema h (closes_alone us e)) (closes_no_schema us e)
  to_annotation (more_schemata {s} {ss} {ls} {us} {vs} h t) e = row_more schemata schemata_down ls us vs s ss (to_schema h (begins_alone us (annotation_begins t))) (annotation_begins t) (to_annotation t e)

  to_alternatives : {ls us : List Lexeme} {bs : List DraftAnnotation} → IsAlternatives ls bs us → (readers schemata).branches ls ≡ Some (bs, us)
  to_alternatives (last_annotation {ss} {ls} {us} a) = branches_last schemata schemata_down ls us ss (to_annotation a refl)
  to_alternatives (more_annotations {ss} {bs} {ls} {us} {vs} a b) = branches_more schemata schemata_down ls us vs ss bs (to_annotation a refl) (to_alternatives b)

-- ---- to the cases: designators, values and forms

-- how a designator with a path was read, behind its opening bracket
record LongCases (ls us : List Lexeme) (left : Left) : Type 0 where
  arrow_of : Arrow
  path : List PathExpression
  is : left ≡ long_left arrow_of path
  long : IsLong (Open ∷ ls) arrow_of path us

from_closed_left : (l : Lexeme) (a : Arrow) (ls vs us : List Lexeme) (ps : List PathExpression) (left : Left) → IsArrow l a → (readers paths).row ls ≡ Some (ps, vs) → closed_left a ps vs ≡ Some (left, us) → LongCases (l ∷ ls) us left
from_closed_left l a ls [] us ps left h r e = absurd (let no : ⊥ = cc in no)
from_closed_left l a ls (Close ∷ vs) us ps left h r e =
    let q : ◌≡◌ {A = Left × List Lexeme} (long_left a ps, vs) (left, us) = same_some e in
    record {
      arrow_of = a;
      path = ps;
      is = sym (ap (λ (x : Left × List Lexeme). x.0) q);
      long = subst (λ (ws : List Lexeme). IsLong (Open ∷ l ∷ ls) a ps ws) (ap (λ (x : Left × List Lexeme). x.1) q) (long h (path_from ls (Close ∷ vs) ps r));
    }
from_closed_left l a ls (_ ∷ vs) us ps left h r e = absurd (let no : ⊥ = cc in no)

from_long : (ls us : List Lexeme) (left : Left) → long_at ls ≡ Some (left, us) → LongCases ls us left
from_long [] us left e = absurd (let no : ⊥ = cc in no)
from_long (Up ∷ ls) us left e =
    let b = bound ((readers paths).row ls) (λ p. closed_left arrow.Up p.0 p.1) (left, us) e in
    from_closed_left Up arrow.Up ls b.0.1 us b.0.0 left up b.1 b.2
from_long (Down ∷ ls) us left e =
    let b = bound ((readers paths).row ls) (λ p. closed_left arrow.Down p.0 p.1) (left, us) e in
    from_closed_left Down arrow.Down ls b.0.1 us b.0.0 left down b.1 b.2
from_long (_ ∷ ls) us left e = absurd (let no : ⊥ = cc in no)

from_des : (ls us : List Lexeme) (d : Des PathExpression) → des_at ls ≡ Some (d, us) → IsDes ls d us
from_des [] us d e = absurd (let no : ⊥ = cc in no)
from_des (Up ∷ ls) us d e = subst (λ (x : Des PathExpression × List Lexeme). IsDes (Up ∷ ls) x.0 x.1) (same_some e) (bare_arrow up)
from_des (Down ∷ ls) us d e = subst (λ (x : Des PathExpression × List Lexeme). IsDes (Down ∷ ls) x.0 x.1) (same_some e) (bare_arrow down)
from_des (Open ∷ ls) us d e =
    let b = bound (long_at ls) (λ l. Some (l.0.des, l.1)) (d, us) e in
    let c = from_long ls b.0.1 b.0.0 b.1 in
    subst (λ (x : Des PathExpression × List Lexeme). IsDes (Open ∷ ls) x.0 x.1) (same_some b.2)
    (subst (λ (x : Des PathExpression). IsDes (Open ∷ ls) x b.0.1) (sym (ap (λ (x : Left). x.des) c.is)) (with_path c.long))
from_des (_ ∷ ls) us d e = absurd (let no : ⊥ = cc in no)

-- how a value was read
record ValueCases (ls us : List Lexeme) (a : Name) : Type 0 where
  first : Lexeme
  is : ls ≡ first ∷ us
  value : IsValue first a

from_value : (ls us : List Lexeme) (a : Name) → value_at ls ≡ Some (a, us) → ValueCases ls us a
from_value [] us a e = absurd (let no : ⊥ = cc in no)
from_value (Word b ∷ ls) us a e = subst (λ (x : Name × List Lexeme). ValueCases (Word b ∷ ls) x.1 x.0) (same_some e) (record { first = Word b; is = refl; value = value_name })
from_value (Plus ∷ ls) us a e = subst (λ (x : Name × List Lexeme). ValueCases (Plus ∷ ls) x.1 x.0) (same_some e) (record { first = Plus; is = refl; value = value_plus })
from_value (Minus ∷ ls) us a e = subst (λ (x : Name × List Lexeme). ValueCases (Minus ∷ ls) x.1 x.0) (same_some e) (record { first = Minus; is = refl; value = value_minus })
from_value (_ ∷ ls) us a e = absurd (let no : ⊥ = cc in no)

-- what was read, as what it stands for
abbrev as_atom : Option (Name × List Lexeme) → Option (Val PathExpression × List Lexeme)
as_atom o = o >>= λ x. Some (val.Atom x.0, x.1)

abbrev as_des : Option (Des PathExpression × List Lexeme) → Option (Val PathExpression × List Lexeme)
as_des o = o >>= λ x. Some (val.Des x.0, x.1)

abbrev as_form : Option (Form × List Lexeme) → Option (Val PathExpression × List Lexeme)
as_form o = o >>= λ x. Some (val.Form x.0, x.1)

abbrev as_member : Des PathExpression → Option (Des PathExpression × List Lexeme) → Option (DraftSchema × List Lexeme)
as_member d o = o >>= λ x. Some (member d x.0, x.1)

abbrev as_mark : Bool → Name → List Lexeme → Option (DraftSchema × List Lexeme)
as_mark b a ls = cond b (Some (mark a, ls)) None

value_test : (ls us : List Lexeme) (v : Val PathExpression) → as_atom (value_at ls) ≡ Some (v, us) → IsTest ls v us
value_test ls us v e =
    let b = bound (value_at ls) (λ x. Some (val.Atom x.0, x.1)) (v, us) e in
    let c = from_value ls b.0.1 b.0.0 b.1 in
    subst (λ (x : Val PathExpression × List Lexeme). IsTest ls x.0 x.1) (same_some b.2) (subst (λ (ws : List Lexeme). IsTest ws (val.Atom b.0.0) b.0.1) (sym c.is) (test_value c.value))

des_test : (ls us : List Lexeme) (v : Val PathExpression) → as_des (des_at ls) ≡ Some (v, us) → IsTest ls v us
des_test ls us v e =
    let b = bound (des_at ls) (λ x. Some (val.Des x.0, x.1)) (v, us) e in
    subst (λ (x : Val PathExpression × List Lexeme). IsTest ls x.0 x.1) (same_some b.2) (test_des (from_des ls b.0.1 b.0.0 b.1))

from_test_of : (b : Bool) (ls us : List Lexeme) (v : Val PathExpression) → cond b (as_des (des_at ls)) (as_atom (value_at ls)) ≡ Some (v, us) → IsTest ls v us
from_test_of true ls us v e = des_test ls us v e
from_test_of false ls us v e = value_test ls us v e

from_test : (ls us : List Lexeme) (v : Val PathExpression) → test_at ls ≡ Some (v, us) → IsTest ls v us
from_test ls us v e = from_test_of (begins_des ls) ls us v e

from_values : (ls : List Lexeme) → IsValues ls (values_at ls).0 (values_at ls).1
from_values [] = no_value
from_values (Word a ∷ ls) = more_values value_name (from_values ls)
from_values (Plus ∷ ls) = more_values value_plus (from_values ls)
from_values (Minus ∷ ls) = more_values value_minus (from_values ls)
from_values (_ ∷ ls) = no_value

-- functions in front, each step further in
mutual
  from_functions : (ls us : List Lexeme) (fs : List Name) → functions_at ls ≡ Some (fs, us) → IsFunctions ls fs us
  from_functions [] us fs e = subst (λ (x : List Name × List Lexeme). IsFunctions [] x.0 x.1) (same_some e) no_function
  from_functions (Open ∷ ls) us fs e = from_function_arrow ls us fs e
  from_functions (l ∷ ls) us fs e = subst (λ (x : List Name × List Lexeme). IsFunctions (l ∷ ls) x.0 x.1) (same_some e) no_function

  from_function_arrow : (ls us : List Lexeme) (fs : List Name) → function_arrow ls ≡ Some (fs, us) → IsFunctions (Open ∷ ls) fs us
  from_function_arrow [] us fs e = absurd (let no : ⊥ = cc in no)
  from_function_arrow (Up ∷ ls) us fs e = from_function_name ls us fs e
  from_function_arrow (_ ∷ ls) us fs e = absurd (let no : ⊥ = cc in no)

  from_function_name : (ls us : List Lexeme) (fs : List Name) → function_name ls ≡ Some (fs, us) → IsFunctions (Open ∷ Up ∷ ls) fs us
  from_function_name [] us fs e = absurd (let no : ⊥ = cc in no)
  from_function_name (Word a ∷ ls) us fs e = from_function_end a ls us fs e
  from_function_name (_ ∷ ls) us fs e = absurd (let no : ⊥ = cc in no)

  from_function_end : (a : Name) (ls us : List Lexeme) (fs : List Name) → function_end a ls ≡ Some (fs, us) → IsFunctions (Open ∷ Up ∷ Word a ∷ ls) fs us
  from_function_end a [] us fs e = absurd (let no : ⊥ = cc in no)
  from_function_end a (Close ∷ ls) us fs e =
      let b = bound (functions_at ls) (λ r. Some (put_name a r)) (fs, us) e in
      subst (λ (x : List Name × List Lexeme). IsFunctions (Open ∷ Up ∷ Word a ∷ Close ∷ ls) x.0 x.1) (same_some b.2) (more_functions (from_functions ls b.0.1 b.0.0 b.1))
  from_function_end a (_ ∷ ls) us fs e = absurd (let no : ⊥ = cc in no)

-- the closing quote
record QuoteCases (ls us : List Lexeme) (f g : Form) : Type 0 where
  is : ls ≡ Quote ∷ us
  same : f ≡ g

from_quoted : (f g : Form) (ls us : List Lexeme) → quoted f ls ≡ Some (g, us) → QuoteCases ls us f g
from_quoted f g [] us e = absurd (let no : ⊥ = cc in no)
from_quoted f g (Quote ∷ ls) us e = subst (λ (x : Form × List Lexeme). QuoteCases (Quote ∷ ls) x.1 f x.0) (same_some e) (record { is = refl; same = refl })
from_quoted f g (_ ∷ ls) us e = absurd (let no : ⊥ = cc in no)

form_bare : (l : Lexeme) (a : Name) (ls us : List Lexeme) (f : Form) → IsValue l a → quoted (form_of a [] []) ls ≡ Some (f, us) → IsForm (l ∷ ls) f us
form_bare l a ls us f v e = let q = from_quoted (form_of a [] []) f ls us e in
    subst (λ (ws : List Lexeme). IsForm (l ∷ ws) f us) (sym q.is) (subst (λ (g : Form). IsForm (l ∷ Quote ∷ us) g us) q.same (bare_form v))

form_inner : (l : Lexeme) (a : Name) (inner : List Name) (ls vs us : List Lexeme) (f : Form) → IsValue l a → functions_at ls ≡ Some (inner, vs) → behind_inner a inner vs ≡ Some (f, us) → IsForm (l ∷ LessSign ∷ ls) f us
form_inner l a inner ls [] us f v i e = absurd (let no : ⊥ = cc in no)
form_inner l a inner ls (Greater ∷ vs) us f v i e =
    let b = bound (functions_at vs) (λ o. quoted (form_of a inner o.0) o.1) (f, us) e in
    let q = from_quoted (form_of a inner b.0.0) f b.0.1 us b.2 in
    subst (λ (g : Form). IsForm (l ∷ LessSign ∷ ls) g us) q.same
    (form_with v (from_functions ls (Greater ∷ vs) inner i) (from_functions vs (Quote ∷ us) b.0.0 (b.1 ∙ ap (λ (ws : List Lexeme). let o : Option (List Name × List Lexeme) = Some (b.0.0, ws) in o) q.is)))
form_inner l a inner ls (_ ∷ vs) us f v i e = absurd (let no : ⊥ = cc in no)

form_behind : (l : Lexeme) (a : Name) (ls us : List Lexeme) (f : Form) → IsValue l a → behind_form_name a ls ≡ Some (f, us) → IsForm (l ∷ ls) f us
form_behind l a [] us f v e = absurd (let no : ⊥ = cc in no)
form_behind l a (LessSign ∷ ls) us f v e =
    let b = bound (functions_at ls) (λ i. behind_inner a i.0 i.1) (f, us) e in
    form_inner l a b.0.0 ls b.0.1 us f v b.1 b.2
form_behind l a (k ∷ ls) us f v e = form_bare l a (k ∷ ls) us f v e

from_form : (ls us : List Lexeme) (f : Form) → form_at ls ≡ Some (f, us) → IsForm ls f us
from_form ls us f e =
    let b = bound (value_at ls) (λ v. behind_form_name v.0 v.1) (f, us) e in
    let c = from_value ls b.0.1 b.0.0 b.1 in
    subst (λ (ws : List Lexeme). IsForm ws f us) (sym c.is) (form_behind c.first b.0.0 b.0.1 us f c.value b.2)

-- how the right side of a defining equation was read
data RightCases (b : Bool) : List Lexeme → Val PathExpression → List Lexeme → Type 0 where
  right_test : {ls us : List Lexeme} {v : Val PathExpression} → IsTest ls v us → RightCases b ls v us
  right_form : {ls us : List Lexeme} {f : Form} → b ≡ true → IsForm ls f us → RightCases b (Quote ∷ ls) (val.Form f) us

quote_cases : (b c : Bool) (ls us : List Lexeme) (v : Val PathExpression) → b ≡ c → cond c (as_form (form_at ls)) None ≡ Some (v, us) → RightCases b (Quote ∷ ls) v us
quote_cases b true ls us v q e =
    let x = bound (form_at ls) (λ f. Some (val.Form f.0, f.1)) (v, us) e in
    subst (λ (y : Val PathExpression × List Lexeme). RightCases b (Quote ∷ ls) y.0 y.1) (same_some x.2) (right_form q (from_form ls x.0.1 x.0.0 x.1))
quote_cases b false ls us v q e = absurd (let no : ⊥ = cc in no)

from_right : (b : Bool) (ls us : List Lexeme) (v : Val PathExpression) → right_at b ls ≡ Some (v, us) → RightCases b ls v us
from_right b [] us v e = right_test (from_test [] us v e)
from_right b (Quote ∷ ls) us v e = quote_cases b b ls us v refl e
from_right b (l ∷ ls) us v e = right_test (from_test (l ∷ ls) us v e)

-- ---- to the cases: schemata

constrained : (k ls vs us : List Lexeme) (d : Des PathExpression) (f : Des PathExpression → Val PathExpression → DraftSchema) (s : DraftSchema) → related f d (test_at ls) ≡ Some (s, us)
    → ((v : Val PathExpression) (ws : List Lexeme) → IsTest ls v ws → IsSchema k (f d v) ws) → IsSchema k s us
constrained k ls vs us d f s e go =
    let b = bound (test_at ls) (λ v. Some (f d v.0, v.1)) (s, us) e in
    subst (λ (x : DraftSchema × List Lexeme). IsSchema k x.0 x.1) (same_some b.2) (go b.0.0 b.0.1 (from_test ls b.0.1 b.0.0 b.1))

belonging : (k ls us : List Lexeme) (d : Des PathExpression) (s : DraftSchema) → as_member d (des_at ls) ≡ Some (s, us) → IsDes k d (Dollar ∷ ls) → IsSchema k s us
belonging k ls us d s e h =
    let b = bound (des_at ls) (λ x. Some (member d x.0, x.1)) (s, us) e in
    subst (λ (x : DraftSchema × List Lexeme). IsSchema k x.0 x.1) (same_some b.2) (belongs h (from_des ls b.0.1 b.0.0 b.1))

bare_defined : (k ls us : List Lexeme) (d : Des PathExpression) (v : Val PathExpression) → IsDes k d (Equals ∷ ls) → RightCases false ls v us → IsSchema k (define d v) us
bare_defined k ls us d v h (right_test t) = defines h t
bare_defined k ls us d v h (right_form q f) = absurd (let no : ⊥ = cc in no)

long_defined : (k ls us : List Lexeme) (a : Arrow) (ps : List PathExpression) (v : Val PathExpression) → IsLong k a ps (Equals ∷ ls) → RightCases (ends_in_pred false ps) ls v us → IsSchema k (define (long_des a ps) v) us
long_defined k ls us a ps v h (right_test t) = defines (with_path h) t
long_defined k ls us a ps v h (right_form q f) = defines_form h q f

from_bare : (k : List Lexeme) (a : Arrow) (ls us : List Lexeme) (s : DraftSchema) → IsDes k (bare_des a) ls → behind_left (bare_left a) ls ≡ Some (s, us) → IsSchema k s us
from_bare k a [] us s h e = absurd (let no : ⊥ = cc in no)
from_bare k a (Equals ∷ ls) us s h e =
    let b = bound (right_at false ls) (λ v. Some (define (bare_des a) v.0, v.1)) (s, us) e in
    subst (λ (x : DraftSchema × List Lexeme). IsSchema k x.0 x.1) (same_some b.2) (bare_defined k ls b.0.1 (bare_des a) b.0.0 h (from_right false ls b.0.1 b.0.0 b.1))
from_bare k a (Constrains ∷ ls) us s h e = constrained k ls us us (bare_des a) (constrain false) s e (λ v ws t. constrains h t)
from_bare k a (Differs ∷ ls) us s h e = constrained k ls us us (bare_des a) (constrain true) s e (λ v ws t. differs h t)
from_bare k a (Dollar ∷ ls) us s h e = belonging k ls us (bare_des a) s e h
from_bare k a (_ ∷ ls) us s h e = absurd (let no : ⊥ = cc in no)

from_path : (k : List Lexeme) (a : Arrow) (ps : List PathExpression) (ls us : List Lexeme) (s : DraftSchema) → IsLong k a ps ls → behind_left (long_left a ps) ls ≡ Some (s, us) → IsSchema k s us
from_path k a ps [] us s h e = subst (λ (x : DraftSchema × List Lexeme). IsSchema k x.0 x.1) (same_some e) (leads h)
from_path k a ps (Equals ∷ ls) us s h e =
    let b = bound (right_at (ends_in_pred false ps) ls) (λ v. Some (define (long_des a ps) v.0, v.1)) (s, us) e in
    subst (λ (x : DraftSchema × List Lexeme). IsSchema k x.0 x.1) (same_some b.2) (long_defined k ls b.0.1 a ps b.0.0 h (from_right (ends_in_pred false ps) ls b.0.1 b.0.0 b.1))
from_path k a ps (Constrains ∷ ls) us s h e = constrained k ls us us (long_des a ps) (constrain false) s e (λ v ws t. constrains (with_path h) t)
from_path k a ps (Differs ∷ ls) us s h e = constrained k ls us us (long_des a ps) (constrain true) s e (λ v ws t. differs (with_path h) t)
from_path k a ps (Dollar ∷ ls) us s h e = belonging k ls us (long_des a ps) s e (with_path h)
from_path k a ps (l ∷ ls) us s h e = subst (λ (x : DraftSchema × List Lexeme). IsSchema k x.0 x.1) (same_some e) (leads h)

from_negated : (ls us : List Lexeme) (s : DraftSchema) → negated_at ls ≡ Some (s, us) → IsSchema (Not ∷ ls) s us
from_negated [] us s e = absurd (let no : ⊥ = cc in no)
from_negated (Open ∷ ls) us s e =
    let b = bound (long_at ls) (λ l. Some (exists true l.0.des, l.1)) (s, us) e in
    let c = from_long ls b.0.1 b.0.0 b.1 in
    subst (λ (x : DraftSchema × List Lexeme). IsSchema (Not ∷ Open ∷ ls) x.0 x.1) (same_some b.2)
    (subst (λ (d : Des PathExpression). IsSchema (Not ∷ Open ∷ ls) (exists true d) b.0.1) (sym (ap (λ (x : Left). x.des) c.is)) (leads_nowhere c.long))
from_negated (_ ∷ ls) us s e = absurd (let no : ⊥ = cc in no)

mark_cases : (b : Bool) (a o : Name) (ls us : List Lexeme) (s : DraftSchema) → b ≡ same_name o (codes "o") → as_mark b a ls ≡ Some (s, us) → IsSchema (Word a ∷ Dollar ∷ Word o ∷ DoubleColon ∷ Star ∷ ls) s us
mark_cases true a o ls us s q e = subst (λ (x : DraftSchema × List Lexeme). IsSchema (Word a ∷ Dollar ∷ Word o ∷ DoubleColon ∷ Star ∷ ls) x.0 x.1) (same_some e)
    (subst (λ (w : Name). IsSchema (Word a ∷ Dollar ∷ Word w ∷ DoubleColon ∷ Star ∷ ls) (mark a) ls) (sym (same_text o (codes "o") q)) marks)
mark_cases false a o ls us s q e = absurd (let no : ⊥ = cc in no)

from_mark : (a : Name) (ls us : List Lexeme) (s : DraftSchema) → mark_at a ls ≡ Some (s, us) → IsSchema (Word a ∷ ls) s us
from_mark a (Dollar ∷ Word o ∷ DoubleColon ∷ Star ∷ ls) us s e = mark_cases (same_name o (codes "o")) a o ls us s refl e
from_mark a _ us s e = absurd (let no : ⊥ = cc in no)

from_closed_call : (a : Name) (args : List Name) (ls vs us : List Lexeme) (s : DraftSchema) → IsValues ls args vs → closed_call a args vs ≡ Some (s, us) → IsSchema (At ∷ Open ∷ Word a ∷ ls) s us
from_closed_call a args ls [] us s v e = absurd (let no : ⊥ = cc in no)
from_closed_call a args ls (Close ∷ vs) us s v e = subst (λ (x : DraftSchema × List Lexeme). IsSchema (At ∷ Open ∷ Word a ∷ ls) x.0 x.1) (same_some e) (calls_with v)
from_closed_call a args ls (_ ∷ vs) us s v e = absurd (let no : ⊥ = cc in no)

from_in_brackets : (ls us : List Lexeme) (s : DraftSchema) → call_in_brackets ls ≡ Some (s, us) → IsSchema (At ∷ Open ∷ ls) s us
from_in_brackets [] us s e = absurd (let no : ⊥ = cc in no)
from_in_brackets (Word a ∷ ls) us s e = from_closed_call a (values_at ls).0 ls (values_at ls).1 us s (from_values ls) e
from_in_brackets (_ ∷ ls) us s e = absurd (let no : ⊥ = cc in no)

from_call : (ls us : List Lexeme) (s : DraftSchema) → call_at ls ≡ Some (s, us) → IsSchema (At ∷ ls) s us
from_call [] us s e = absurd (let no : ⊥ = cc in no)
from_call (Word a ∷ ls) us s e = subst (λ (x : DraftSchema × List Lexeme). IsSchema (At ∷ Word a ∷ ls) x.0 x.1) (same_some e) calls
from_call (Open ∷ ls) us s e = from_in_brackets ls us s e
from_call (_ ∷ ls) us s e = absurd (let no : ⊥ = cc in no)

from_option : (ls vs us : List Lexeme) (ss : List DraftSchema) (s : DraftSchema) → (readers schemata).row ls ≡ Some (ss, vs) → closed_option ss vs ≡ Some (s, us)
    → ((ws : List Lexeme) → (readers schemata).row ls ≡ Some (ss, Close ∷ ws) → IsAnnotation ls ss (Close ∷ ws)) → IsSchema (Open ∷ ls) s us
from_option ls [] us ss s r e go = absurd (let no : ⊥ = cc in no)
from_option ls (Close ∷ vs) us ss s r e go = subst (λ (x : DraftSchema × List Lexeme). IsSchema (Open ∷ ls) x.0 x.1) (same_some e) (optional_schemata (go vs r))
from_option ls (_ ∷ vs) us ss s r e go = absurd (let no : ⊥ = cc in no)

from_bracketed : (b : Bool) (ls us : List Lexeme) (s : DraftSchema) → cond b (long_at ls >>= λ l. behind_left l.0 l.1) ((readers schemata).row ls >>= λ s. closed_option s.0 s.1) ≡ Some (s, us)
    → ((ws : List Lexeme) (ss : List DraftSchema) → (readers schemata).row ls ≡ Some (ss, Close ∷ ws) → IsAnnotation ls ss (Close ∷ ws)) → IsSchema (Open ∷ ls) s us
from_bracketed true ls us s e go =
    let b = bound (long_at ls) (λ l. behind_left l.0 l.1) (s, us) e in
    let c = from_long ls b.0.1 b.0.0 b.1 in
    from_path (Open ∷ ls) c.arrow_of c.path b.0.1 us s c.long (ap (λ (l : Left). behind_left l b.0.1) (sym c.is) ∙ b.2)
from_bracketed false ls us s e go =
    let b = bound ((readers schemata).row ls) (λ s. closed_option s.0 s.1) (s, us) e in
    from_option ls b.0.1 us b.0.0 s b.1 b.2 (λ ws r. go ws b.0.0 r)

from_row_cases : {ls us : List Lexeme} {ss : List DraftSchema} → RowCases schemata ls us ss → ((vs : List Lexeme) (s : DraftSchema) → schema_by (readers schemata) ls ≡ Some (s, vs) → IsSchema ls s vs)
    → ((vs : List Lexeme) (ts : List DraftSchema) → length vs < length ls → (readers schemata).row vs ≡ Some (ts, us) → IsAnnotation vs ts us) → IsAnnotation ls ss us
from_row_cases {ls} {us} (one {x} i) schema row = last_schema (schema us x i)
from_row_cases {ls} {us} (more {x} {xs} vs i l r) schema row = more_schemata (schema vs x i) (row vs xs l r)

from_branch_cases : {ls us : List Lexeme} {bs : List DraftAnnotation} → BranchCases schemata ls us bs → ((vs : List Lexeme) (ss : List DraftSchema) → (readers schemata).row ls ≡ Some (ss, vs) → IsAnnotation ls ss vs)
    → ((vs : List Lexeme) (cs : List DraftAnnotation) → length vs < length ls → (readers schemata).branches vs ≡ Some (cs, us) → IsAlternatives vs cs us) → IsAlternatives ls bs us
from_branch_cases {ls} {us} (one_branch {xs} r) row branches = last_annotation (row (CloseBrace ∷ us) xs r)
from_branch_cases {ls} {us} (more_branch {xs} {bs} vs r l b) row branches = more_annotations (row (Bar ∷ vs) xs r) (branches vs bs l b)

mutual
  from_schema : (n : ℕ) (ls us : List Lexeme) (s : DraftSchema) → 3 * length ls ≤ n → schema_by (readers schemata) ls ≡ Some (s, us) → IsSchema ls s us
  from_schema n [] us s l e = absurd (let no : ⊥ = cc in no)
  from_schema n (Up ∷ ls) us s l e = from_bare (Up ∷ ls) arrow.Up ls us s (bare_arrow up) e
  from_schema n (Down ∷ ls) us s l e = from_bare (Down ∷ ls) arrow.Down ls us s (bare_arrow down) e
  from_schema zero (Open ∷ ls) us s l e = absurd (let no : ⊥ = omega arith in no)
  from_schema (suc n) (Open ∷ ls) us s l e = from_bracketed (begins_long ls) ls us s e (λ ws ss r. from_annotation n ls (Close ∷ ws) ss (omega arith) r)
  from_schema n (Not ∷ ls) us s l e = from_negated ls us s e
  from_schema n (Word a ∷ ls) us s l e = from_mark a ls us s e
  from_schema n (At ∷ ls) us s l e = from_call ls us s e
  from_schema zero (OpenBrace ∷ ls) us s l e = absurd (let no : ⊥ = omega arith in no)
  from_schema (suc n) (OpenBrace ∷ ls) us s l e =
      let b = bound ((readers schemata).branches ls) (λ b. Some (either (draft_branches_from b.0), b.1)) (s, us) e in
      subst (λ (x : DraftSchema × List Lexeme). IsSchema (OpenBrace ∷ ls) x.0 x.1) (same_some b.2) (alternatives (from_alternatives n ls b.0.1 b.0.0 (omega arith) b.1))
  from_schema n (_ ∷ ls) us s l e = absurd (let no : ⊥ = cc in no)

  from_annotation : (n : ℕ) (ls us : List Lexeme) (ss : List DraftSchema) → 3 * length ls + 1 ≤ n → (readers schemata).row ls ≡ Some (ss, us) → IsAnnotation ls ss us
  from_annotation zero ls us ss l e = absurd (let no : ⊥ = omega arith in no)
  from_annotation (suc n) ls us ss l e = from_row_cases (row_cases schemata schemata_down ls us ss e) (λ vs s i. from_schema n ls vs s (omega arith) i) (λ vs ts k r. from_annotation n vs us ts (omega arith) r)

  from_alternatives : (n : ℕ) (ls us : List Lexeme) (bs : List DraftAnnotation) → 3 * length ls + 2 ≤ n → (readers schemata).branches ls ≡ Some (bs, us) → IsAlternatives ls bs us
  from_alternatives zero ls us bs l e = absurd (let no : ⊥ = omega arith in no)
  from_alternatives (suc n) ls us bs l e = from_branch_cases (branch_cases schemata schemata_down ls us bs e) (λ vs ss r. from_annotation n ls vs ss (omega arith) r) (λ vs cs k b. from_alternatives n vs us cs (omega arith) b)

pub annotation_from : (ls us : List Lexeme) (ss : List DraftSchema) → (readers schemata).row ls ≡ Some (ss, us) → IsAnnotation ls ss us
annotation_from ls us ss e = from_annotation (3 * length ls + 1) ls us ss (omega arith) e

pub annotations_by_cases : AnnotationsByCases
annotations_by_cases ls us ss c = (annotation_from ls us ss, λ a. to_annotation a c)
