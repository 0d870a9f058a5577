-- The command line: the commands that its words can say, and their files.
use Rattle.std.specs.Prelude.{ℕ, ◌==◌, if◌then◌else◌, Option, Some, None, List, [], ◌∷◌, codes}
use Rattle.std.specs.Cmp.Lexicographic.{pointwise}
use Rattle.lfg_model.specs.Lists.{In}

-- the commands that a command line can say, with their files
pub data Command : Type 0 where
  readings : (grammar sentences : List ℕ) → Command

-- the command that the words of a command line say, if they fit one
abbrev pub command_of : List (List ℕ) → Option Command
command_of (name ∷ grammar ∷ sentences ∷ []) = if pointwise ◌==◌ name (codes "readings") then Some (readings grammar sentences) else None
command_of _ = None

-- the files of a command, in the order in which they are loaded
abbrev pub files_of : Option Command → List (List ℕ)
files_of None = []
files_of (Some (readings grammar sentences)) = grammar ∷ sentences ∷ []

-- the name is that of a file of the words
abbrev pub IsFileOf : List (List ℕ) → List ℕ → Type 0
IsFileOf words name = In name (files_of (command_of words))

-- the name of the sentence file of a command; none where there is no command
abbrev pub text_name : Option Command → List ℕ
text_name None = []
text_name (Some (readings grammar sentences)) = sentences
