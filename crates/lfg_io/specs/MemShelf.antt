-- A shelf in memory, and what its calls find.
use Rattle.std.specs.Prelude.{◌==◌, ℕ, List, [], ◌∷◌, map, Option, None, if◌then◌else◌}
use Rattle.std.specs.List.{list_any}
use Rattle.std.specs.declared.vec.Vec.{Vec}
use Rattle.std.specs.FinMap as finite
use Rattle.lfg_io.specs.Counts.{raised}
use Rattle.lfg_io.specs.Shelf.{Files}

-- the files with their names, which calls fail, how many calls were made, how many failed, and the name of the last that failed
pub record MemShelfState : Type 0 where
  pub files : List (List ℕ × List ℕ)
  pub fails : List ℕ
  pub calls : ℕ
  pub faults : ℕ
  pub last_failed : List ℕ

-- the names and the bytes of a list of files
abbrev pub told : {Z : Type 0} → List (List ℕ × Vec ℕ Z) → List (List ℕ × List ℕ)
told files = map (λ file. (file.0, file.1.items)) files

-- the files by their names; of two with one name the first counts
abbrev pub files_of : List (List ℕ × List ℕ) → Files
files_of files = finite.from_entries files

-- the names of the files, where no call is listed to fail
abbrev pub sure_names : List ℕ → List (List ℕ × List ℕ) → List (List ℕ)
sure_names [] files = map (λ file. file.0) files
sure_names (call ∷ calls) files = []

-- the file of that name, unless the next call is listed to fail
abbrev pub found : MemShelfState → List ℕ → Option (List ℕ)
found shelf name =
    if list_any (λ call. call == raised shelf.calls) shelf.fails
    then None
    else finite.get (files_of shelf.files) name
