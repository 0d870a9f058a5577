-- Where no template calls itself, and each call names a template, calls go no deeper than there are
-- templates.
use Rattle.std.proofs.Common.{◌≡◌, ℕ, zero, suc, ◌+◌, ◌≤◌, Bool, true, false, cond, Option, Some, None, List, [], ◌∷◌, length, map, refl, sym, ap, ◌∙◌, subst, arith, inl, inr}
use Rattle.std.proofs.lemmas.List.{length-map}
use Rattle.lfg_model.specs.Lists.{In, here, later, Once, none, more}
use Rattle.lfg_model.specs.Terms.{Name, same_name}
use Rattle.lfg_model.specs.DraftForms.{TemplateForm}
use Rattle.lfg_model.specs.Templates.{template_named}
use Rattle.lfg_model.specs.TemplateRules.{Call, calls, NoneHas, IsCyclic, Reaches, at_once, through, template_name}
use Rattle.lfg_model.proofs.ListLaws.{In-cons_cases, In-nil, In-map, length-le_from_Once}
use Rattle.lfg_templates.proofs.SameNames.{equal_from_same}
use Rattle.lfg_templates.specs.Depth.{Leads, into}

found_at : (u : TemplateForm) (ts : List TemplateForm) (name : Name) (t : TemplateForm) (b : Bool) → same_name u.name name ≡ b → cond b (Some u) (template_named ts name) ≡ Some t
    → (template_named ts name ≡ Some t → In t ts × (t.name ≡ name)) → In t (u ∷ ts) × (t.name ≡ name)
found_at u ts name t true s e go = let f : u ≡ t = cc in (subst (λ (x : TemplateForm). In x (u ∷ ts)) f here, ap (λ (x : TemplateForm). x.name) (sym f) ∙ equal_from_same u.name name s)
found_at u ts name t false s e go = let r = go e in (later r.0, r.1)

-- a template that is named is one of them, and has this name
pub named_in : (ts : List TemplateForm) (name : Name) (t : TemplateForm) → template_named ts name ≡ Some t → In t ts × (t.name ≡ name)
named_in [] name t e = absurd (let no : ⊥ = cc in no)
named_in (u ∷ ts) name t e = found_at u ts name t (same_name u.name name) refl e (λ f. named_in ts name t f)

-- each call in the body of a template names one
abbrev pub BodiesNamed : List TemplateForm → Type 0
BodiesNamed ts = (t : TemplateForm) → In t ts → (c : Call) → In c (calls t.body) → template_named ts c.name ≡ None → ⊥

module _ (ts : List TemplateForm) (acyclic : NoneHas (IsCyclic ts) ts) (named : BodiesNamed ts) where
  -- these names were passed on the way to the call, each once
  record Passed (seen : List Name) (c : Call) : Type 0 where
    once : Once seen
    there : (n : Name) → In n seen → In n (map template_name ts)
    reach : (n : Name) → In n seen → Reaches ts n c.name

  found_not : (o : Option TemplateForm) (c : Call) → template_named ts c.name ≡ o → (template_named ts c.name ≡ None → ⊥) → (t : TemplateForm) × (template_named ts c.name ≡ Some t)
  found_not None c e h = absurd (h e)
  found_not (Some t) c e h = (t, e)

  -- the call's own name was not passed, and with it the names are still different ones of templates
  fresh : (seen : List Name) (c : Call) (t : TemplateForm) → Passed seen c → template_named ts c.name ≡ Some t → Once (c.name ∷ seen) × (length (c.name ∷ seen) ≤ length ts)
  fresh seen c t p e =
      let i = named_in ts c.name t e in
      let apart : In c.name seen → ⊥ = λ k. acyclic t i.0 (subst (λ (n : Name). Reaches ts n n) (sym i.1) (p.reach c.name k)) in
      let once : Once (c.name ∷ seen) = more apart p.once in
      let own : In c.name (map template_name ts) = subst (λ (n : Name). In n (map template_name ts)) i.1 (In-map template_name i.0) in
      let few = length-le_from_Once (c.name ∷ seen) (map template_name ts) once (λ n k. elim (In-cons_cases k) [ inl f ↦ subst (λ (m : Name). In m (map template_name ts)) (sym f) own | inr g ↦ p.there n g ]) in
      (once, let m = length-map ts template_name in omega (arith, few, m))

  passed_on : (seen : List Name) (c : Call) (t : TemplateForm) (x : Call) → Passed seen c → template_named ts c.name ≡ Some t → In x (calls t.body) → Passed (c.name ∷ seen) x
  passed_on seen c t x p e k =
      let i = named_in ts c.name t e in
      let step : Reaches ts c.name x.name = at_once e k in
      record {
        once = (fresh seen c t p e).0;
        there = λ n h. elim (In-cons_cases h) [ inl f ↦ subst (λ (m : Name). In m (map template_name ts)) (i.1 ∙ sym f) (In-map template_name i.0) | inr g ↦ p.there n g ];
        reach = λ n h. elim (In-cons_cases h) [ inl f ↦ subst (λ (m : Name). Reaches ts m x.name) (sym f) step | inr g ↦ through (p.reach n g) step ];
      }

  deeper : (d : ℕ) (seen : List Name) (c : Call) → length ts ≤ d + length seen → Passed seen c → (template_named ts c.name ≡ None → ⊥) → Leads ts d c
  deeper zero seen c l p h =
      let f = found_not (template_named ts c.name) c refl h in
      absurd (let few = (fresh seen c f.0 p f.1).1 in let no : ⊥ = omega (arith, few, l) in no)
  deeper (suc d) seen c l p h =
      let f = found_not (template_named ts c.name) c refl h in
      into f.1 (λ x k. deeper d (c.name ∷ seen) x (omega (arith, l)) (passed_on seen c f.0 x p f.1 k) (named f.0 ((named_in ts c.name f.0 f.1).0) x k))

  -- as deep as there are templates
  pub deep_enough : (c : Call) → (template_named ts c.name ≡ None → ⊥) → Leads ts (length ts) c
  deep_enough c h = deeper (length ts) [] c (omega arith) (record { once = none; there = λ n i. In-nil i; reach = λ n i. In-nil i }) h
