-- Links between numbers, tables of them, and what they lead to.
use Rattle.std.specs.Prelude.{◌≡◌, ◌↔◌, ℕ, ◌<◌, Bool, true, false, List, Vec, length, slice_index_or}
use Rattle.std.specs.Global.{Global}
use Rattle.lfg_model.specs.Lists.{In}
use Rattle.lfg_rulegraph.specs.Followers.{IsAt}
use Rattle.lfg_templates.specs.Graphs.{Tied}
use Rattle.lfg_grammar.specs.declared.reach.Link.{Link}

-- the link from one number to another
abbrev pub link : ℕ → ℕ → Link
link i j = record { from = i; to = j }

-- the link the other way
abbrev pub turned : Link → Link
turned l = record { from = l.to; to = l.from }

-- The table has a list for each number, and in it the numbers that it is linked to.
pub record IsTableOf (links : List Link) (next : List (Vec ℕ Global)) : Type 0 where
  pub each : (i j : ℕ) → IsAt next i j ↔ In (link i j) links

-- the number is one of the starts, or these lead to it over the table
pub data IsReached (next : List (Vec ℕ Global)) (starts : List ℕ) : ℕ → Type 0 where
  begin : {i : ℕ} → In i starts → IsReached next starts i
  go_on : {i j : ℕ} → IsReached next starts i → IsAt next i j → IsReached next starts j

-- There is a mark for each number below the size, and the marks tell for which numbers P holds.
pub record Marks (size : ℕ) (P : ℕ → Type 0) (marks : List Bool) : Type 0 where
  pub wide : length marks ≡ size
  pub exact : (i : ℕ) → i < size → (slice_index_or marks i false ≡ true) ↔ P i

-- what was found from the starts, where the lists of so many were looked at
pub record Search (next : List (Vec ℕ Global)) (starts : List ℕ) (marks : List Bool) (found seen : List ℕ) : Type 0 where
  pub tied : Tied (length next) marks found
  pub sound : (j : ℕ) → In j found → IsReached next starts j
  pub begun : (j : ℕ) → In j starts → j < length next → In j found
  pub closed : (i : ℕ) → In i seen → (j : ℕ) → IsAt next i j → j < length next → In j found
