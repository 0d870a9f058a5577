-- What is known of the names that headed entries of a section so far.
use Rattle.std.specs.Prelude.{◌≡◌, ◌≢◌, Bool, true, false, Option, Some, None, List}
use Rattle.indexmap.specs.IndexMap.{IndexMap, get}
use Rattle.lfg_model.specs.Lists.{In}
use Rattle.lfg_model.specs.Terms.{Name, same_name}
use Rattle.lfg_model.specs.TemplateRules.{Head}
use Rattle.lfg_templates.specs.declared.heads.Heading.{Heading}

-- one of the heads has this name and stands at this entry
pub record HeadsEntry (hs : List Head) (name : Name) (h : Head) : Type 0 where
  pub among : In h hs
  pub named : h.name ≡ name

-- the name headed an entry of the heads, and another entry too just where that is said
pub record IsHeading (hs : List Head) (name : Name) (x : Heading) : Type 0 where
  pub one : Head
  pub heads_one : HeadsEntry hs name one
  pub entry : one.entry ≡ x.entry
  pub another : x.again ≡ true → (h : Head) × HeadsEntry hs name h × (h.entry ≢ x.entry)
  pub alone : x.again ≡ false → (h : Head) → HeadsEntry hs name h → h.entry ≡ x.entry

-- what the heads say of the name: nothing where it heads none of them
abbrev pub Tells : List Head → Name → Option Heading → Type 0
Tells hs name None = (h : Head) → HeadsEntry hs name h → ⊥
Tells hs name (Some x) = IsHeading hs name x

-- the map has what the heads say of each name
abbrev pub AreHeadings : {S : Type 0} → List Head → IndexMap Name Heading S → Type 0
AreHeadings hs m = (name : Name) → Tells hs name (get same_name m name)
