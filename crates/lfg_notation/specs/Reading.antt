-- What the program read, beside what is to be read.
use Rattle.std.specs.Prelude.{◌≡◌, false, Option, Some, None, Result, Ok, Err, List, [], ◌∷◌}
use Rattle.lfg_model.specs.declared.lexeme.Lexeme.{Lexeme}
use Rattle.lfg_model.specs.declared.lexeme.Lexeme.TheVariants.{Bar, CloseBrace}
use Rattle.lfg_model.specs.Nests.{ends_branch}
use Rattle.lfg_notation.specs.declared.fault.Refusal.{Refusal}
use Rattle.lfg_notation.specs.declared.fault.Refusal.TheVariants.{Form, Memory}
use Rattle.lfg_notation.specs.declared.reading.After.{After}
use Rattle.lfg_notation.specs.declared.reading.After.TheVariants.{More, Last, Neither}

-- the program read nothing where nothing is to be read; want of memory says nothing
abbrev pub Refuses : {Y : Type 0} → Refusal → Option Y → Type 0
Refuses Form read = read ≡ None
Refuses Memory read = Unit {0}

-- what the program found is what is to be read, seen so
abbrev pub Gives : {X Y : Type 0} → (X → Y) → Result X Refusal → Option Y → Type 0
Gives view (Ok x) read = read ≡ Some (view x)
Gives view (Err e) read = Refuses e read

-- what stands behind a branch
abbrev pub IsAfter : List Lexeme → After → Type 0
IsAfter ls (More rest) = ls ≡ Bar ∷ rest.now
IsAfter ls (Last rest) = ls ≡ CloseBrace ∷ rest.now
IsAfter ls Neither = ends_branch ls ≡ false
