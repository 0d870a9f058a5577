-- How lexemes are cut.
use Rattle.std.proofs.Common.{Option, Some, None, List, ◌++◌}
use Rattle.lfg_model.specs.declared.lexeme.Lexeme.{Lexeme}

-- what was passed stands in front of what is cut off
abbrev pub with_front : List Lexeme → Option (List Lexeme × List Lexeme) → Option (List Lexeme × List Lexeme)
with_front front None = None
with_front front (Some x) = Some (front ++ x.0, x.1)

-- what was read stands in front of what is still to be read
abbrev pub before : List Lexeme → Option (List Lexeme) → Option (List Lexeme)
before front None = None
before front (Some xs) = Some (front ++ xs)
