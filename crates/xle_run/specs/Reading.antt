-- What the program found, beside what is to be found.
use Rattle.std.specs.Prelude.{◌≡◌, Option, Some, None, List}
use denote.Ref.{Bor}
use Rattle.lfg_model.specs.declared.lexeme.Lexeme.{Lexeme}

-- nothing was read where nothing is to be read, and else this and what is behind it
abbrev pub Reads : {X Y R : Type 0} → (X → R → Y) → Option (X × R) → Option Y → Type 0
Reads view None read = read ≡ None
Reads view (Some x) read = read ≡ Some (view x.0 x.1)

-- there is no such thing, or what was found is one
abbrev pub Found : {X Y : Type 0} → (X → Y) → (Y → Type 0) → Option X → Type 0
Found {X} {Y} view Is None = (y : Y) → ¬ Is y
Found view Is (Some x) = Is (view x)

-- no such thing stands in front, or what was found does, with what is behind it
abbrev pub FoundAt : {X Y : Type 0} → (X → Y) → (List Lexeme → Y → List Lexeme → Type 0) → List Lexeme → Option (X × Bor (List Lexeme)) → Type 0
FoundAt {X} {Y} view Stands ls None = (y : Y) (rest : List Lexeme) → ¬ Stands ls y rest
FoundAt view Stands ls (Some x) = Stands ls (view x.0) x.1.now
