-- Where the first template of each name stands.
use Rattle.std.specs.Prelude.{◌≡◌, ℕ, suc, cond, Option, Some, None, List, [], ◌∷◌, map}
use Rattle.std.specs.Option.{option_map}
use Rattle.indexmap.specs.IndexMap.{IndexMap, get}
use Rattle.lfg_terms.specs.declared.draft.Template.{Template}
use Rattle.lfg_model.specs.Terms.{Name, same_name}
use Rattle.lfg_model.specs.DraftForms.{TemplateForm, template_form}

-- the place of the first template of this name, from 0, or none where no template has it
abbrev pub first_place : List TemplateForm → Name → Option ℕ
first_place [] name = None
first_place (t ∷ ts) name = cond (same_name t.name name) (Some 0) (option_map suc (first_place ts name))

-- the map has for each name the place of the first template of it
abbrev pub ArePlaces : {S : Type 0} → List Template → IndexMap Name ℕ S → Type 0
ArePlaces ts places = (name : Name) → get same_name places name ≡ first_place (map template_form ts) name
