-- How deep the calls of templates go, and the measures of the functions that follow them.
use Rattle.std.specs.Prelude.{◌≡◌, ℕ, suc, ◌+◌, ◌*◌, Some, List, [], ◌∷◌}
use denote.Param.Weighed.{most}
use Rattle.lfg_terms.specs.declared.grammar.Schema.{Schema, size-Schema}
use Rattle.lfg_terms.specs.declared.path_expr.PathExpr.{PathExpr}
use Rattle.lfg_terms.specs.declared.draft.Template.{Template}
use Rattle.lfg_model.specs.Lists.{In}
use Rattle.lfg_model.specs.DraftForms.{TemplateForm, RuleForm, WordForm, DraftForm}
use Rattle.lfg_model.specs.Templates.{template_named}
use Rattle.lfg_model.specs.TemplateRules.{Call, calls, side_calls}

-- the call, and the calls in the body of its template, name templates, at most this many one inside
-- the other
pub data Leads (ts : List TemplateForm) : ℕ → Call → Type 0 where
  into : {depth : ℕ} {c : Call} {t : TemplateForm} → template_named ts c.name ≡ Some t → ((x : Call) → In x (calls t.body) → Leads ts depth x) → Leads ts (suc depth) c

-- each of the calls goes at most this deep
abbrev pub AllLead : List TemplateForm → ℕ → List Call → Type 0
AllLead ts depth cs = (x : Call) → In x cs → Leads ts depth x

-- the greatest depth of nesting of the schemata
abbrev pub deepest : List (Schema PathExpr) → ℕ
deepest schemata = most (size-Schema PathExpr) schemata

-- more than a call of any of the templates adds to a measure
abbrev pub heaviest : List Template → ℕ
heaviest [] = 1
heaviest (t ∷ ts) = 2 * deepest t.body + 2 + heaviest ts

-- the calls of all rules and readings go at most this deep
pub record DraftLeads (d : DraftForm) (depth : ℕ) : Type 0 where
  pub rules : (r : RuleForm) → In r d.rules → AllLead d.templates depth (side_calls r.side)
  pub words : (r : WordForm) → In r d.words → AllLead d.templates depth (calls r.annotation)
