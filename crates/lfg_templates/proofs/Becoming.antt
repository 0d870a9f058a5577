-- What schemata become, as the loops make it.
use Rattle.std.proofs.Common.{◌≡◌, ℕ, ◌+◌, ◌<◌, Bool, Some, List, [], ◌∷◌, ◌++◌, length, map, take, get_or, Result, Vec, Global, refl, sym, ap, ◌∙◌, subst, append_assoc, append-nil}
use Rattle.std.proofs.lemmas.List.{take_more, map-append}
use Rattle.std.proofs.lemmas.Result.{IfOk-weaker}
use Rattle.std.specs.Result.{IfOk}
use Rattle.std.specs.declared.alloc.AllocError.{AllocError}
use Rattle.lfg_terms.specs.declared.grammar.Des.{Des}
use Rattle.lfg_terms.specs.declared.grammar.Val.{Val}
use Rattle.lfg_terms.specs.declared.grammar.Schema.{Schema}
use Rattle.lfg_terms.specs.declared.grammar.Schema.TheVariants as written
use Rattle.lfg_terms.specs.declared.path_expr.PathExpr.{PathExpr}
use Rattle.lfg_model.specs.Terms.{Name}
use Rattle.lfg_model.specs.PathExpressions.{PathExpression}
use Rattle.lfg_model.specs.RightSides.{DraftSchema, define, constrain, exists, member, mark, either, maybe, DraftAnnotation, and_schema, draft_annotation_from, draft_branches_from, draft_des_of, draft_val_of, draft_schema_of, draft_annotation_of}
use Rattle.lfg_model.specs.DraftForms.{TemplateForm}
use Rattle.lfg_model.specs.Templates.{Binding, name_with, des_with, val_with, template_named, Becomes, defining, constraining, existential, membership, marked, disjunction, option, called, AllBecome, nothing, one_more, BranchesBecome, no_more, branch_more}
use Rattle.lfg_model.proofs.RightSideViews.{view_define, view_constrain, view_exists, view_member, view_mark, view_either, view_option, view_call}

-- ---- one more at the end of a list

pub all_push : (ts : List TemplateForm) (b : Binding) (ss : List DraftSchema) (s : DraftSchema) (out new : List DraftSchema) → AllBecome ts b (draft_annotation_from ss) out → Becomes ts b s new → AllBecome ts b (draft_annotation_from (ss ++ s ∷ [])) (out ++ new)
all_push ts b [] s out new nothing n = subst (λ (o : List DraftSchema). AllBecome ts b (and_schema s (draft_annotation_from [])) o) (append-nil new) (one_more n nothing)
all_push ts b (x ∷ ss) s out new (one_more {first} {rest} f r) n = subst (λ (o : List DraftSchema). AllBecome ts b (draft_annotation_from (x ∷ ss ++ s ∷ [])) o) (sym (append_assoc first rest new)) (one_more f (all_push ts b ss s rest new r n))

pub branches_push : (ts : List TemplateForm) (b : Binding) (xs : List DraftAnnotation) (x : DraftAnnotation) (out : List DraftAnnotation) (new : List DraftSchema) → BranchesBecome ts b (draft_branches_from xs) out → AllBecome ts b x new → BranchesBecome ts b (draft_branches_from (xs ++ x ∷ [])) (out ++ draft_annotation_from new ∷ [])
branches_push ts b [] x out new no_more n = branch_more n no_more
branches_push ts b (y ∷ xs) x out new (branch_more f r) n = branch_more f (branches_push ts b xs x _ new r n)

-- ---- one schema

-- a schema of this form, that becomes this
becomes_at : (ts : List TemplateForm) (b : Binding) (s s' : DraftSchema) (out out' : List DraftSchema) → s ≡ s' → out ≡ out' → Becomes ts b s' out' → Becomes ts b s out
becomes_at ts b s s' out out' e f h = subst (λ (x : DraftSchema). Becomes ts b x out) (sym e) (subst (λ (o : List DraftSchema). Becomes ts b s' o) (sym f) h)

-- what was made is the one schema
made : (v : List (Schema PathExpr)) (new : Schema PathExpr) (s : DraftSchema) → v ≡ new ∷ [] → draft_schema_of new ≡ s → map draft_schema_of v ≡ s ∷ []
made v new s e f = ap (map draft_schema_of) e ∙ ap (λ (x : DraftSchema). x ∷ []) f

module _ (ts : List TemplateForm) (b : Binding) (s : Schema PathExpr) (v : List (Schema PathExpr)) (new : Schema PathExpr) (alone : v ≡ new ∷ []) where
  pub becomes_define : (left : Des PathExpr) (right : Val PathExpr) (l : Des PathExpr) (r : Val PathExpr) → s ≡ written.Define left right → draft_schema_of new ≡ define (draft_des_of l) (draft_val_of r)
      → draft_des_of l ≡ des_with b (draft_des_of left) → draft_val_of r ≡ val_with b (draft_val_of right) → Becomes ts b (draft_schema_of s) (map draft_schema_of v)
  becomes_define left right l r is m dl dr = becomes_at ts b _ _ _ _ (ap draft_schema_of is ∙ view_define left right)
      (made v new _ alone (m ∙ ap (λ (d : Des PathExpression). define d (draft_val_of r)) dl ∙ ap (λ (w : Val PathExpression). define (des_with b (draft_des_of left)) w) dr)) defining

  pub becomes_constrain : (negated : Bool) (left : Des PathExpr) (right : Val PathExpr) (l : Des PathExpr) (r : Val PathExpr) → s ≡ written.Constrain negated left right → draft_schema_of new ≡ constrain negated (draft_des_of l) (draft_val_of r)
      → draft_des_of l ≡ des_with b (draft_des_of left) → draft_val_of r ≡ val_with b (draft_val_of right) → Becomes ts b (draft_schema_of s) (map draft_schema_of v)
  becomes_constrain negated left right l r is m dl dr = becomes_at ts b _ _ _ _ (ap draft_schema_of is ∙ view_constrain negated left right)
      (made v new _ alone (m ∙ ap (λ (d : Des PathExpression). constrain negated d (draft_val_of r)) dl ∙ ap (λ (w : Val PathExpression). constrain negated (des_with b (draft_des_of left)) w) dr)) constraining

  pub becomes_exists : (negated : Bool) (left : Des PathExpr) (l : Des PathExpr) → s ≡ written.Exists negated left → draft_schema_of new ≡ exists negated (draft_des_of l)
      → draft_des_of l ≡ des_with b (draft_des_of left) → Becomes ts b (draft_schema_of s) (map draft_schema_of v)
  becomes_exists negated left l is m dl = becomes_at ts b _ _ _ _ (ap draft_schema_of is ∙ view_exists negated left)
      (made v new _ alone (m ∙ ap (λ (d : Des PathExpression). exists negated d) dl)) existential

  pub becomes_member : (it set : Des PathExpr) (i t : Des PathExpr) → s ≡ written.Member it set → draft_schema_of new ≡ member (draft_des_of i) (draft_des_of t)
      → draft_des_of i ≡ des_with b (draft_des_of it) → draft_des_of t ≡ des_with b (draft_des_of set) → Becomes ts b (draft_schema_of s) (map draft_schema_of v)
  becomes_member it set i t is m di dt = becomes_at ts b _ _ _ _ (ap draft_schema_of is ∙ view_member it set)
      (made v new _ alone (m ∙ ap (λ (d : Des PathExpression). member d (draft_des_of t)) di ∙ ap (λ (d : Des PathExpression). member (des_with b (draft_des_of it)) d) dt)) membership

  pub becomes_mark : (name n : Name) → s ≡ written.Mark name → draft_schema_of new ≡ mark n → n ≡ name_with b name → Becomes ts b (draft_schema_of s) (map draft_schema_of v)
  becomes_mark name n is m e = becomes_at ts b _ _ _ _ (ap draft_schema_of is ∙ view_mark name) (made v new _ alone (m ∙ ap mark e)) marked

  pub becomes_maybe : (inside : _) (out : List (Schema PathExpr)) → s ≡ written.Maybe inside → draft_schema_of new ≡ maybe (draft_annotation_of out)
      → AllBecome ts b (draft_annotation_of inside.items) (map draft_schema_of out) → Becomes ts b (draft_schema_of s) (map draft_schema_of v)
  becomes_maybe inside out is m h = becomes_at ts b _ _ _ _ (ap draft_schema_of is ∙ view_option inside) (made v new _ alone m) (option h)

  pub becomes_either : (branches : _) (out : List DraftAnnotation) → s ≡ written.Either branches → draft_schema_of new ≡ either (draft_branches_from out)
      → BranchesBecome ts b (draft_branches_from (map (λ x. draft_annotation_of x.items) branches.items)) out → Becomes ts b (draft_schema_of s) (map draft_schema_of v)
  becomes_either branches out is m h = becomes_at ts b _ _ _ _ (ap draft_schema_of is ∙ view_either branches) (made v new _ alone m) (disjunction h)

pub becomes_call : (ts : List TemplateForm) (b : Binding) (s : Schema PathExpr) (name : Name) (args given : List Name) (t : TemplateForm) (out : List DraftSchema) → s ≡ written.Call name args
    → given ≡ map (name_with b) args → template_named ts name ≡ Some t → AllBecome ts (record { params = t.params; args = given }) t.body out → Becomes ts b (draft_schema_of s) out
becomes_call ts b s name args given t out is e f h = becomes_at ts b _ _ out out (ap draft_schema_of is ∙ view_call name args) refl
    (called f (subst (λ (xs : List Name). AllBecome ts (record { params = t.params; args = xs }) t.body out) e h))

-- ---- as the function has it

pub alone_becomes : (ts : List TemplateForm) (b : Binding) (s new : Schema PathExpr) (r : Result (Vec (Schema PathExpr) Global) AllocError)
    → ((v : List (Schema PathExpr)) → v ≡ new ∷ [] → Becomes ts b (draft_schema_of s) (map draft_schema_of v)) → IfOk r (λ v. v.items ≡ new ∷ []) → IfOk r (λ v. Becomes ts b (draft_schema_of s) (map draft_schema_of v.items))
alone_becomes ts b s new r f h = IfOk-weaker r (λ v. v.items ≡ new ∷ []) (λ v. Becomes ts b (draft_schema_of s) (map draft_schema_of v.items)) (λ v e. f v.items e) h

pub all_more : (ts : List TemplateForm) (b : Binding) (ss : List (Schema PathExpr)) (i : ℕ) (s : Schema PathExpr) (out new whole : List (Schema PathExpr)) → i < length ss → s ≡ get_or ss i s → whole ≡ out ++ new
    → AllBecome ts b (draft_annotation_of (take i ss)) (map draft_schema_of out) → Becomes ts b (draft_schema_of s) (map draft_schema_of new) → AllBecome ts b (draft_annotation_of (take (i + 1) ss)) (map draft_schema_of whole)
all_more ts b ss i s out new whole l e w h n =
    subst (λ (o : List (Schema PathExpr)). AllBecome ts b (draft_annotation_of (take (i + 1) ss)) (map draft_schema_of o)) (sym w)
    (subst (λ (o : List DraftSchema). AllBecome ts b (draft_annotation_of (take (i + 1) ss)) o) (sym (map-append draft_schema_of out new))
    (subst (λ (a : List DraftSchema). AllBecome ts b (draft_annotation_from a) (map draft_schema_of out ++ map draft_schema_of new))
    (sym (map-append draft_schema_of (take i ss) (s ∷ [])) ∙ ap (map draft_schema_of) (sym (take_more ss i s l ∙ ap (λ (x : Schema PathExpr). take i ss ++ x ∷ []) (sym e))))
    (all_push ts b (map draft_schema_of (take i ss)) (draft_schema_of s) (map draft_schema_of out) (map draft_schema_of new) h n)))

pub branches_more : (ts : List TemplateForm) (b : Binding) (xs : List (Vec (Schema PathExpr) Global)) (i : ℕ) (x : Vec (Schema PathExpr) Global) (out : List (Vec (Schema PathExpr) Global)) (new : Vec (Schema PathExpr) Global) (whole : List (Vec (Schema PathExpr) Global)) → i < length xs → x ≡ get_or xs i x → whole ≡ out ++ new ∷ []
    → BranchesBecome ts b (draft_branches_from (map (λ y. draft_annotation_of y.items) (take i xs))) (map (λ y. draft_annotation_of y.items) out) → AllBecome ts b (draft_annotation_of x.items) (map draft_schema_of new.items)
    → BranchesBecome ts b (draft_branches_from (map (λ y. draft_annotation_of y.items) (take (i + 1) xs))) (map (λ y. draft_annotation_of y.items) whole)
branches_more ts b xs i x out new whole l e w h n =
    subst (λ (o : List (Vec (Schema PathExpr) Global)). BranchesBecome ts b (draft_branches_from (map (λ y. draft_annotation_of y.items) (take (i + 1) xs))) (map (λ y. draft_annotation_of y.items) o)) (sym w)
    (subst (λ (o : List DraftAnnotation). BranchesBecome ts b (draft_branches_from (map (λ y. draft_annotation_of y.items) (take (i + 1) xs))) o) (sym (map-append (λ y. draft_annotation_of y.items) out (new ∷ [])))
    (subst (λ (a : List DraftAnnotation). BranchesBecome ts b (draft_branches_from a) (map (λ y. draft_annotation_of y.items) out ++ draft_annotation_of new.items ∷ []))
    (sym (map-append (λ y. draft_annotation_of y.items) (take i xs) (x ∷ [])) ∙ ap (map (λ y. draft_annotation_of y.items)) (sym (take_more xs i x l ∙ ap (λ (y : Vec (Schema PathExpr) Global). take i xs ++ y ∷ []) (sym e))))
    (branches_push ts b (map (λ y. draft_annotation_of y.items) (take i xs)) (draft_annotation_of x.items) (map (λ y. draft_annotation_of y.items) out) (map draft_schema_of new.items) h n)))
