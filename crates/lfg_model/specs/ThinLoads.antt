-- Thin files are loaded as any grammar file is.
use Rattle.std.specs.Prelude.{ℕ, List}
use Rattle.lfg_terms.specs.declared.grammar.Grammar.{Grammar}
use Rattle.lfg_model.specs.Loads.{Loads}
use Rattle.lfg_model.specs.ThinText.{ThinFile}

-- Law: the grammar that a thin file gives is the one that is loaded from it.
abbrev pub ThinFilesAreLoaded : Type 0
ThinFilesAreLoaded = (bytes : List ℕ) (g : Grammar) → ThinFile bytes g → Loads bytes g
