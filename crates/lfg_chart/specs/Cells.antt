-- Cells of sets of places, in parts, and where the rows of a table stand among them.
use Rattle.std.specs.Prelude.{◌≡◌, ℕ, zero, suc, ◌+◌, ◌-◌, ◌*◌, ◌^◌, ◌<◌, ◌⊎◌, ◌↔◌, Bool, true, false, List, [], ◌∷◌, length, sum_by}
use Rattle.std.specs.declared.vec.Vec.{Vec}
use Rattle.std.specs.declared.alloc.Global.{Global}
use Rattle.lfg_chart.specs.declared.places.Places.{Places}
use Rattle.lfg_chart.specs.declared.table.Row.{Row}
use Rattle.lfg_chart.specs.declared.table.Row.TheVariants.{Whole, Read, Left}
use Rattle.lfg_chart.specs.Places.{Has}

-- the part in which a row stands: three for each category
abbrev pub part_of : Row → ℕ
part_of (Whole cat) = cat * 3
part_of (Read cat item) = cat * 3 + 1
part_of (Left cat item) = cat * 3 + 2

-- and its place among the rows of that part
abbrev pub item_of : Row → ℕ
item_of (Whole cat) = 0
item_of (Read cat item) = item
item_of (Left cat item) = item

-- the place is in the set with this number
abbrev pub HasIn : List Places → ℕ → ℕ → Type 0
HasIn [] i k = ⊥
HasIn (ps ∷ rest) zero k = Has ps k
HasIn (ps ∷ rest) (suc i) k = HasIn rest i k

-- the place is in the cell with this number of this part
abbrev pub HasAt : List (Vec Places Global) → ℕ → ℕ → ℕ → Type 0
HasAt [] part i k = ⊥
HasAt (v ∷ rest) zero i k = HasIn v.items i k
HasAt (v ∷ rest) (suc part) i k = HasAt rest part i k

-- the part has a cell with this number
abbrev pub IsCell : List (Vec Places Global) → ℕ → ℕ → Type 0
IsCell [] part i = ⊥
IsCell (v ∷ rest) zero i = i < length v.items
IsCell (v ∷ rest) (suc part) i = IsCell rest part i

-- a number that falls as the set grows
abbrev pub room_of : Places → ℕ
room_of ps = 2 ^ 128 - ps.bits

abbrev pub part_room : Vec Places Global → ℕ
part_room v = sum_by room_of v.items

-- and that of all cells
unfoldable pub room : List (Vec Places Global) → ℕ
room parts = sum_by part_room parts

-- The places are put into one cell and nothing else is, and it is told whether one of them is new there.
pub record Added (old new : List (Vec Places Global)) (part index : ℕ) (places : Places) (changed : Bool) : Type 0 where
  pub cells : (p i : ℕ) → IsCell old p i → IsCell new p i
  pub exact : (p i k : ℕ) → HasAt new p i k ↔ (HasAt old p i k ⊎ ((p ≡ part) × (i ≡ index) × Has places k))
  pub same : changed ≡ false → new ≡ old
  pub less : changed ≡ true → room new < room old

-- A part with this number of empty cells is there behind the others.
pub record Grown (old new : List (Vec Places Global)) (count : ℕ) : Type 0 where
  pub more : length new ≡ length old + 1
  pub cells : (p i : ℕ) → IsCell old p i → IsCell new p i
  pub here : (i : ℕ) → i < count → IsCell new (length old) i
  pub empty : (p i k : ℕ) → HasAt new p i k → HasAt old p i k

-- the first `count` parts are there, empty
pub record AreCleared (old new : List (Vec Places Global)) (count : ℕ) : Type 0 where
  pub many : length new ≡ count
  pub cells : (p i : ℕ) → p < count → IsCell old p i → IsCell new p i
  pub empty : (p i k : ℕ) → ¬ HasAt new p i k
