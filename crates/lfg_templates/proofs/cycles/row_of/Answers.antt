use Rattle.std.proofs.Common.{map, ap, ◌∙◌, ◌≡◌, ◌++◌, List}
use Rattle.std.proofs.lemmas.Result.{IfOk-weaker}
use Rattle.lfg_terms.specs.declared.grammar.Schema.{Schema}
use Rattle.lfg_terms.specs.declared.path_expr.PathExpr.{PathExpr}
use Rattle.lfg_model.specs.RightSides.{draft_annotation_of}
use Rattle.lfg_model.specs.DraftForms.{template_form}
use Rattle.lfg_model.specs.TemplateRules.{CallAt, call_at, calls}
use Rattle.lfg_templates.specs.Graphs.{place_in, row_of}
use Rattle.lfg_templates.specs.Views.{called_of}
use Rattle.lfg_templates.proofs.Cycling.{row_from_calls}
use Rattle.lfg_templates.proofs.cycles.row_of.Goals as goal

pub returns : goal.returns
returns c =
    let e : map called_of c.deref.result.now ≡ map (call_at c.args.template.now.entry) (calls (template_form c.args.template.now).body) =
    ap (map called_of) c.deref.ensures.value ∙ c.in_ok-push_calls.ensures ∙ ap (λ (xs : List CallAt). xs ++ map (call_at c.args.template.now.entry) (calls (draft_annotation_of c.list.result.now))) (ap (map called_of) c.new-calls.ensures.items)
    ∙ ap (λ (ss : List (Schema PathExpr)). map (call_at c.args.template.now.entry) (calls (draft_annotation_of ss))) c.list.ensures in
    IfOk-weaker c.places_of.result (λ v. v.items ≡ map (λ x. place_in (map template_form c.args.templates.now) x.name.now) c.deref.result.now) (λ v. v.items ≡ row_of (map template_form c.args.templates.now) (template_form c.args.template.now))
    (λ v f. f ∙ row_from_calls (map template_form c.args.templates.now) (template_form c.args.template.now) c.deref.result.now e) c.places_of.ensures
