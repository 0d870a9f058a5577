-- Calls, and the templates that they name.
use Rattle.std.proofs.Common.{◌≡◌, Some, None, List, length, sym, ap, ◌∙◌}
use Rattle.std.proofs.lemmas.Option.{same_Some}
use Rattle.lfg_model.specs.DraftForms.{TemplateForm}
use Rattle.lfg_model.specs.Templates.{template_named}
use Rattle.lfg_model.specs.TemplateRules.{CallAt, IsUndefined, HasOtherArity}

pub not_undefined : (ts : List TemplateForm) (c : CallAt) (t : TemplateForm) → template_named ts c.call.name ≡ Some t → IsUndefined ts c → ⊥
not_undefined ts c t e f = absurd (let no : ⊥ = cc in no)

pub no_other_arity : (ts : List TemplateForm) (c : CallAt) → template_named ts c.call.name ≡ None → HasOtherArity ts c → ⊥
no_other_arity ts c e h = let f = h.named in absurd (let no : ⊥ = cc in no)

pub same_arity : (ts : List TemplateForm) (c : CallAt) (t : TemplateForm) → template_named ts c.call.name ≡ Some t → length t.params ≡ length c.call.args → HasOtherArity ts c → ⊥
same_arity ts c t e l h = h.other (ap (λ (u : TemplateForm). length u.params) (same_Some h.template t (sym h.named ∙ e)) ∙ l)
