-- Links as a list of followers for each item.
use Rattle.std.specs.Prelude.{◌≡◌, ◌↔◌, ◌⊎◌, ℕ, ◌+◌, zero, suc, List, [], ◌∷◌, Vec}
use Rattle.std.specs.Global.{Global}
use Rattle.std.specs.Ordering.{nat_cmp}
use Rattle.lfg_terms.specs.declared.grammar.Graph.{Graph}
use Rattle.lfg_model.specs.Derive.{CanEnd, CanFollow}
use Rattle.lfg_model.specs.Graphs.{IsGraph}
use Rattle.lfg_model.specs.Lists.{In, Lists}
use Rattle.lfg_rulegraph.specs.declared.part.Link.{Link}
use Rattle.lfg_rulegraph.specs.Tables.{Linked, Table, link}

-- p is in the list at this place, counted from 0
abbrev pub IsAt : List (Vec ℕ Global) → ℕ → ℕ → Type 0
IsAt [] place p = ⊥
IsAt (ps ∷ lists) zero p = In p ps.items
IsAt (ps ∷ lists) (suc place) p = IsAt lists place p

-- nothing is in the lists
pub record AreEmpty (lists : List (Vec ℕ Global)) : Type 0 where
  pub each : (place p : ℕ) → ¬ IsAt lists place p

-- the lists with one item more at this place
pub record Pushed (old : List (Vec ℕ Global)) (place item : ℕ) (new : List (Vec ℕ Global)) : Type 0 where
  pub each : (k p : ℕ) → IsAt new k p ↔ (IsAt old k p ⊎ ((k ≡ place) × (p ≡ item)))

-- each item's list has those that may follow it
pub record FollowersOf (links : List Link) (lists : List (Vec ℕ Global)) : Type 0 where
  pub each : (k p : ℕ) → IsAt lists k p ↔ In (link (k + 1) p) links

-- a set for each list: its items in order, each once
pub data AreSets : List (Vec ℕ Global) → List (List ℕ) → Type 0 where
  none : AreSets [] []
  more : {list : Vec ℕ Global} {set : List ℕ} {lists : List (Vec ℕ Global)} {sets : List (List ℕ)}
      → Lists nat_cmp (λ p. In p list.items) set → AreSets lists sets → AreSets (list ∷ lists) (set ∷ sets)

-- a graph of this number of items that says what the table says
pub record HasTable (items : ℕ) (t : Table) (g : Graph) : Type 0 where
  pub size : g.size ≡ items
  pub form : IsGraph g
  pub first : (p : ℕ) → In p g.first ↔ In p t.first
  pub follow : (k p : ℕ) → CanFollow g (suc k) p ↔ Linked t (k + 1) p
  pub end : (k : ℕ) → CanEnd g (suc k) ↔ In (k + 1) t.last
