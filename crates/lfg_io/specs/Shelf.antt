-- What a shelf of files gives.
use Rattle.std.specs.Prelude.{◌≡◌, ℕ, ◌≤◌, List, ◌++◌, length, take, Option, Some, None, IsSome}
use Rattle.std.specs.Ordering.{nat_cmp}
use Rattle.std.specs.Cmp.Lexicographic.{slice_cmp}
use Rattle.std.specs.FinMap as finite

-- files by their names
abbrev pub Files : Type 0
Files = finite.FinMap (slice_cmp nat_cmp) (List ℕ)

-- the bytes of the file with this name
abbrev pub file_in : Files → List ℕ → Option (List ℕ)
file_in files name = finite.get files name

-- where the files are told, one has the name
abbrev pub HasFile : Option Files → List ℕ → Type 0
HasFile None name = Unit {0}
HasFile (Some files) name = IsSome (finite.get files name)

-- the first `limit` bytes of the file are appended; where the files are not told, no more than `limit` bytes
abbrev pub IsLoaded : Option Files → List ℕ → ℕ → List ℕ → List ℕ → Type 0
IsLoaded None name limit old new = (bytes : List ℕ) × (length bytes ≤ limit) × (new ≡ old ++ bytes)
IsLoaded (Some files) name limit old new = (bytes : List ℕ) × (finite.get files name ≡ Some bytes) × (new ≡ old ++ take limit bytes)
