-- The place of the first template of a name, as templates come behind one another.
use Rattle.std.proofs.Common.{◌≡◌, ℕ, zero, suc, ◌<◌, Bool, true, false, cond, Option, Some, None, List, [], ◌∷◌, ◌++◌, length, map, get_or, refl, sym, ap, ◌∙◌, subst, arith}
use Rattle.std.proofs.lemmas.List.{length-map, map-append}
use Rattle.std.proofs.Math.ListN.{get_or-map}
use Rattle.std.specs.Option.{option_map}
use Rattle.indexmap.specs.IndexMap.{IndexMap, get, Updates}
use Rattle.lfg_terms.specs.declared.draft.Template.{Template}
use Rattle.lfg_model.specs.Terms.{Name, same_name}
use Rattle.lfg_model.specs.DraftForms.{TemplateForm, template_form}
use Rattle.lfg_model.specs.Templates.{template_named}
use Rattle.lfg_templates.specs.Graphs.{place_in}
use Rattle.lfg_templates.specs.Places.{first_place, ArePlaces}
use Rattle.lfg_templates.proofs.SameNames.{equal_from_same}

-- ---- what a place says

none_at : (u : TemplateForm) (ts : List TemplateForm) (name : Name) (b : Bool) → cond b (Some 0) (option_map suc (first_place ts name)) ≡ None
    → (first_place ts name ≡ None → (template_named ts name ≡ None) × (place_in ts name ≡ length ts))
    → (cond b (Some u) (template_named ts name) ≡ None) × (cond b 0 (suc (place_in ts name)) ≡ length (u ∷ ts))
none_at u ts name true e go = absurd (let no : ⊥ = cc in no)
none_at u ts name false e go = by (first_place ts name) refl e
  where
    by : (o : Option ℕ) → first_place ts name ≡ o → option_map suc o ≡ None → (template_named ts name ≡ None) × (suc (place_in ts name) ≡ length (u ∷ ts))
    by None f h = let r = go f in (r.0, ap suc r.1)
    by (Some i) f h = absurd (let no : ⊥ = cc in no)

-- a name without a place names no template
pub first_none : (ts : List TemplateForm) (name : Name) → first_place ts name ≡ None → (template_named ts name ≡ None) × (place_in ts name ≡ length ts)
first_none [] name e = (refl, refl)
first_none (u ∷ ts) name e = none_at u ts name (same_name u.name name) e (λ f. first_none ts name f)

some_at : (u : TemplateForm) (ts : List TemplateForm) (name : Name) (i : ℕ) (d : TemplateForm) (b : Bool) → cond b (Some 0) (option_map suc (first_place ts name)) ≡ Some i
    → ((j : ℕ) → first_place ts name ≡ Some j → (j < length ts) × (place_in ts name ≡ j) × (template_named ts name ≡ Some (get_or ts j d)))
    → (i < length (u ∷ ts)) × (cond b 0 (suc (place_in ts name)) ≡ i) × (cond b (Some u) (template_named ts name) ≡ Some (get_or (u ∷ ts) i d))
some_at u ts name zero d true e go = (omega arith, refl, refl)
some_at u ts name (suc i) d true e go = absurd (let no : ⊥ = cc in no)
some_at u ts name i d false e go = by (first_place ts name) i refl e
  where
    by : (o : Option ℕ) (k : ℕ) → first_place ts name ≡ o → option_map suc o ≡ Some k → (k < length (u ∷ ts)) × (suc (place_in ts name) ≡ k) × (template_named ts name ≡ Some (get_or (u ∷ ts) k d))
    by None k f h = absurd (let no : ⊥ = cc in no)
    by (Some j) zero f h = absurd (let no : ⊥ = cc in no)
    by (Some j) (suc k) f h =
        let same : j ≡ k = cc in
        let r = go k (f ∙ ap (λ (x : ℕ). Some x) same) in
        let l = r.0 in
        (omega arith, ap suc r.1, r.2)

-- a name with a place names the template there
pub first_some : (ts : List TemplateForm) (name : Name) (i : ℕ) (d : TemplateForm) → first_place ts name ≡ Some i → (i < length ts) × (place_in ts name ≡ i) × (template_named ts name ≡ Some (get_or ts i d))
first_some [] name i d e = absurd (let no : ⊥ = cc in no)
first_some (u ∷ ts) name i d e = some_at u ts name i d (same_name u.name name) e (λ j f. first_some ts name j d f)

-- ---- one template more

-- the one, or the other where there is none
abbrev or_else : Option ℕ → Option ℕ → Option ℕ
or_else None b = b
or_else (Some i) b = Some i

or_none : (a : Option ℕ) → or_else a None ≡ a
or_none None = refl
or_none (Some i) = refl

push_at : (n : ℕ) (c b : Bool) (x y : Option ℕ) → x ≡ or_else y (cond b (Some n) None)
    → cond c (Some 0) (option_map suc x) ≡ or_else (cond c (Some 0) (option_map suc y)) (cond b (Some (suc n)) None)
push_at n true b x y e = refl
push_at n false true x None e = ap (option_map suc) e
push_at n false false x None e = ap (option_map suc) e
push_at n false b x (Some j) e = ap (option_map suc) e

first_push : (ts : List TemplateForm) (t : TemplateForm) (name : Name) → first_place (ts ++ t ∷ []) name ≡ or_else (first_place ts name) (cond (same_name t.name name) (Some (length ts)) None)
first_push [] t name = refl
first_push (u ∷ ts) t name = push_at (length ts) (same_name u.name name) (same_name t.name name) (first_place (ts ++ t ∷ []) name) (first_place ts name) (first_push ts t name)

forms_push : (ts : List Template) (t : Template) (name : Name) → first_place (map template_form (ts ++ t ∷ [])) name ≡ or_else (first_place (map template_form ts) name) (cond (same_name t.name name) (Some (length ts)) None)
forms_push ts t name =
    ap (λ (fs : List TemplateForm). first_place fs name) (map-append template_form ts (t ∷ [])) ∙ first_push (map template_form ts) (template_form t) name
    ∙ ap (λ (n : ℕ). or_else (first_place (map template_form ts) name) (cond (same_name t.name name) (Some n) None)) (length-map ts template_form)

module _ {S : Type 0} (ts : List Template) (t : Template) (m : IndexMap Name ℕ S) where
  -- a name that has a place keeps it
  pub places_kept : (i : ℕ) → get same_name m t.name ≡ Some i → ArePlaces ts m → ArePlaces (ts ++ t ∷ []) m
  places_kept i e h = λ name. h name ∙ by name (same_name t.name name) refl ∙ sym (forms_push ts t name)
    where
      by : (name : Name) (b : Bool) → same_name t.name name ≡ b → first_place (map template_form ts) name ≡ or_else (first_place (map template_form ts) name) (cond b (Some (length ts)) None)
      by name true f =
          let named : t.name ≡ name = equal_from_same t.name name f in
          let there : first_place (map template_form ts) name ≡ Some i = sym (h name) ∙ ap (λ (n : Name). get same_name m n) (sym named) ∙ e in
          there ∙ sym (ap (λ (o : Option ℕ). or_else o (Some (length ts))) there)
      by name false f = sym (or_none (first_place (map template_form ts) name))

  -- a name that is new gets the place behind the others
  pub places_added : (n : IndexMap Name ℕ S) → get same_name m t.name ≡ None → ArePlaces ts m → Updates same_name m n t.name (Some (length ts)) → ArePlaces (ts ++ t ∷ []) n
  places_added n e h u = λ name. u.0 name ∙ by name (same_name t.name name) refl ∙ sym (forms_push ts t name)
    where
      by : (name : Name) (b : Bool) → same_name t.name name ≡ b → cond b (Some (length ts)) (get same_name m name) ≡ or_else (first_place (map template_form ts) name) (cond b (Some (length ts)) None)
      by name true f =
          let named : t.name ≡ name = equal_from_same t.name name f in
          let none : first_place (map template_form ts) name ≡ None = sym (h name) ∙ ap (λ (x : Name). get same_name m x) (sym named) ∙ e in
          sym (ap (λ (o : Option ℕ). or_else o (Some (length ts))) none)
      by name false f = h name ∙ sym (or_none (first_place (map template_form ts) name))

-- ---- as the program reads places

-- what stands at the place of a name is the first template of it
pub found_within : (ts : List Template) (name : Name) (i : ℕ) → first_place (map template_form ts) name ≡ Some i → i < length ts
found_within ts name i e = by (map template_form ts) refl e
  where
    by : (fs : List TemplateForm) → map template_form ts ≡ fs → first_place fs name ≡ Some i → i < length ts
    by [] f g = absurd (let no : ⊥ = cc in no)
    by (u ∷ us) f g =
        let l = (first_some (u ∷ us) name i u g).0 in
        let m = length-map ts template_form in
        let n : length (map template_form ts) ≡ length (u ∷ us) = ap length f in
        omega (arith, l, m, n)

pub found_named : (ts : List Template) (name : Name) (i : ℕ) (t : Template) → first_place (map template_form ts) name ≡ Some i → t ≡ get_or ts i t → template_named (map template_form ts) name ≡ Some (template_form t)
found_named ts name i t e f =
    let r = first_some (map template_form ts) name i (template_form t) e in
    r.2 ∙ ap (λ (x : TemplateForm). Some x) (get_or-map template_form ts i t ∙ ap template_form (sym f))

pub missing_place : (ts : List Template) (name : Name) → first_place (map template_form ts) name ≡ None → place_in (map template_form ts) name ≡ length ts
missing_place ts name e = (first_none (map template_form ts) name e).1 ∙ length-map ts template_form

pub missing_named : (ts : List Template) (name : Name) → first_place (map template_form ts) name ≡ None → template_named (map template_form ts) name ≡ None
missing_named ts name e = (first_none (map template_form ts) name e).0

pub found_place : (ts : List Template) (name : Name) (i : ℕ) → first_place (map template_form ts) name ≡ Some i → place_in (map template_form ts) name ≡ i
found_place ts name i e = by (map template_form ts) refl e
  where
    by : (fs : List TemplateForm) → map template_form ts ≡ fs → first_place fs name ≡ Some i → place_in (map template_form ts) name ≡ i
    by [] f g = absurd (let no : ⊥ = cc in no)
    by (u ∷ us) f g = ap (λ (fs : List TemplateForm). place_in fs name) f ∙ (first_some (u ∷ us) name i u g).1
