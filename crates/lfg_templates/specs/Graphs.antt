-- Which templates call which, by their places, and what can be reached from a place.
use Rattle.std.specs.Prelude.{◌≡◌, ℕ, suc, ◌+◌, ◌<◌, ◌⊎◌, Bool, true, false, cond, List, [], ◌∷◌, length, map, slice_index_or}
use Rattle.lfg_model.specs.Lists.{In, Extends}
use Rattle.lfg_model.specs.Terms.{Name, same_name}
use Rattle.lfg_model.specs.DraftForms.{TemplateForm}
use Rattle.lfg_model.specs.TemplateRules.{Call, calls}

-- the place of the first template of this name, or else the number of templates
abbrev pub place_in : List TemplateForm → Name → ℕ
place_in [] name = 0
place_in (t ∷ ts) name = cond (same_name t.name name) 0 (suc (place_in ts name))

-- the place of the template that is called
abbrev pub called_place : List TemplateForm → Call → ℕ
called_place ts c = place_in ts c.name

-- the places of the templates that the body of the template calls
abbrev pub row_of : List TemplateForm → TemplateForm → List ℕ
row_of ts t = map (called_place ts) (calls t.body)

-- for each template the places of those that its body calls
abbrev pub graph_of : List TemplateForm → List (List ℕ)
graph_of ts = map (row_of ts) ts

-- the places that follow this one
abbrev pub row_at : List (List ℕ) → ℕ → List ℕ
row_at rows i = slice_index_or rows i []

-- one place leads to another, at once or through others
pub data Walks (rows : List (List ℕ)) : ℕ → ℕ → Type 0 where
  step : {i j : ℕ} → In j (row_at rows i) → Walks rows i j
  further : {i j k : ℕ} → Walks rows i j → In k (row_at rows j) → Walks rows i k

-- how many places are not marked
abbrev pub unmarked : List Bool → ℕ
unmarked [] = 0
unmarked (b ∷ bs) = cond b 0 1 + unmarked bs

-- of so many places just those are marked that were reached, and each was reached once
pub record Tied (size : ℕ) (marks : List Bool) (reached : List ℕ) : Type 0 where
  pub wide : length marks ≡ size
  pub count : unmarked marks + length reached ≡ size
  pub told : (j : ℕ) → slice_index_or marks j false ≡ true → In j reached
  pub back : (j : ℕ) → In j reached → slice_index_or marks j false ≡ true

-- all places of the row were reached, and nothing else came
pub record Reached (size : ℕ) (row old new : List ℕ) : Type 0 where
  pub extends : Extends old new
  pub added : (j : ℕ) → In j new → In j old ⊎ In j row
  pub all : (j : ℕ) → In j row → j < size → In j new

-- what was reached from the start, where the followers of so many were looked at
pub record Search (rows : List (List ℕ)) (start : ℕ) (marks : List Bool) (reached : List ℕ) (seen : List ℕ) : Type 0 where
  pub tied : Tied (length rows) marks reached
  pub sound : (j : ℕ) → In j reached → Walks rows start j
  pub begun : (j : ℕ) → In j (row_at rows start) → j < length rows → In j reached
  pub closed : (j : ℕ) → In j seen → (k : ℕ) → In k (row_at rows j) → k < length rows → In k reached
