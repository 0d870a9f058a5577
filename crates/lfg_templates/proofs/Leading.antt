-- How deep the calls go that stand in parts of an annotation.
use Rattle.std.proofs.Common.{◌≡◌, ℕ, suc, ◌<◌, ◌≤◌, ◌-◌, Some, None, List, length, map, get_or, Vec, Global, sym, ap, ◌∙◌, subst, arith}
use Rattle.std.proofs.lemmas.Option.{same_Some}
use Rattle.lfg_terms.specs.declared.grammar.Schema.{Schema}
use Rattle.lfg_terms.specs.declared.grammar.Schema.TheVariants as written
use Rattle.lfg_terms.specs.declared.path_expr.PathExpr.{PathExpr}
use Rattle.lfg_model.specs.Lists.{In, here, later}
use Rattle.lfg_model.specs.Terms.{Name}
use Rattle.lfg_model.specs.RightSides.{DraftSchema, draft_branches_from, draft_schema_of, draft_annotation_of}
use Rattle.lfg_model.specs.DraftForms.{TemplateForm}
use Rattle.lfg_model.specs.Templates.{template_named}
use Rattle.lfg_model.specs.TemplateRules.{Call, calls, schema_calls, branches_calls}
use Rattle.lfg_model.proofs.ListLaws.{In-append_left, In-append_right}
use Rattle.lfg_model.proofs.RightSideViews.{view_either, view_option, view_call}
use Rattle.lfg_templates.specs.Depth.{Leads, into, AllLead}
use Rattle.lfg_templates.proofs.Measures.{In_item}

-- ---- one call

pub leads_deep : {ts : List TemplateForm} {d : ℕ} {c : Call} → Leads ts d c → 1 ≤ d
leads_deep (into e f) = omega arith

pub leads_known : {ts : List TemplateForm} {d : ℕ} {c : Call} → Leads ts d c → template_named ts c.name ≡ None → ⊥
leads_known (into e f) n = absurd (let no : ⊥ = cc in no)

pub leads_into : (ts : List TemplateForm) {d : ℕ} {c : Call} (t : TemplateForm) → Leads ts d c → template_named ts c.name ≡ Some t → AllLead ts (d - 1) (calls t.body)
leads_into ts t (into {depth} {t = u} e f) n =
    let same : u ≡ t = same_Some u t (sym e ∙ n) in
    let less : depth ≡ suc depth - 1 = omega arith in
    subst (λ (k : ℕ). AllLead ts k (calls t.body)) less (subst (λ (v : TemplateForm). AllLead ts depth (calls v.body)) same f)

-- ---- parts of an annotation

pub item_calls : (s : Schema PathExpr) (ss : List (Schema PathExpr)) (c : Call) → In s ss → In c (schema_calls (draft_schema_of s)) → In c (calls (draft_annotation_of ss))
item_calls s _ c (here {xs}) i = In-append_left (calls (draft_annotation_of xs)) i
item_calls s _ c (later {y} {xs} h) i = In-append_right (schema_calls (draft_schema_of y)) (item_calls s xs c h i)

branch_calls : (b : Vec (Schema PathExpr) Global) (bs : List (Vec (Schema PathExpr) Global)) (c : Call) → In b bs → In c (calls (draft_annotation_of b.items))
    → In c (branches_calls (draft_branches_from (map (λ x. draft_annotation_of x.items) bs)))
branch_calls b _ c (here {xs}) i = In-append_left (branches_calls (draft_branches_from (map (λ x. draft_annotation_of x.items) xs))) i
branch_calls b _ c (later {y} {xs} h) i = In-append_right (calls (draft_annotation_of y.items)) (branch_calls b xs c h i)

pub item_leads : (ts : List TemplateForm) (d : ℕ) (ss : List (Schema PathExpr)) (i : ℕ) (s : Schema PathExpr) → i < length ss → s ≡ get_or ss i s → AllLead ts d (calls (draft_annotation_of ss)) → AllLead ts d (schema_calls (draft_schema_of s))
item_leads ts d ss i s l e h = λ c k. h c (item_calls s ss c (In_item ss i s s l e) k)

leads_in : (ts : List TemplateForm) (d : ℕ) (s s' : DraftSchema) → s ≡ s' → AllLead ts d (schema_calls s) → AllLead ts d (schema_calls s')
leads_in ts d s s' e h = subst (λ (x : DraftSchema). AllLead ts d (schema_calls x)) e h

pub maybe_leads : (ts : List TemplateForm) (d : ℕ) (s : Schema PathExpr) (inside : _) → s ≡ written.Maybe inside → AllLead ts d (schema_calls (draft_schema_of s)) → AllLead ts d (calls (draft_annotation_of inside.items))
maybe_leads ts d s inside e h = leads_in ts d _ _ (ap draft_schema_of e ∙ view_option inside) h

pub branch_leads : (ts : List TemplateForm) (d : ℕ) (s : Schema PathExpr) (branches : _) (bs : List (Vec (Schema PathExpr) Global)) (i : ℕ) (b : Vec (Schema PathExpr) Global) → s ≡ written.Either branches → bs ≡ branches.items → i < length bs → b ≡ get_or bs i b
    → AllLead ts d (schema_calls (draft_schema_of s)) → AllLead ts d (calls (draft_annotation_of b.items))
branch_leads ts d s branches bs i b e f l g h =
    let all = leads_in ts d _ _ (ap draft_schema_of e ∙ view_either branches) h in
    λ c k. all c (subst (λ (xs : List (Vec (Schema PathExpr) Global)). In c (branches_calls (draft_branches_from (map (λ x. draft_annotation_of x.items) xs)))) f (branch_calls b bs c (In_item bs i b b l g) k))

pub call_leads : (ts : List TemplateForm) (d : ℕ) (s : Schema PathExpr) (name : Name) (args : List Name) → s ≡ written.Call name args → AllLead ts d (schema_calls (draft_schema_of s)) → Leads ts d (record { name = name; args = args })
call_leads ts d s name args e h = leads_in ts d _ _ (ap draft_schema_of e ∙ view_call name args) h (record { name = name; args = args }) here
