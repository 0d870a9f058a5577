-- Path expressions as they are written: names, branches in braces and rows in brackets, each of
-- which may be repeated.
use Rattle.std.specs.Prelude.{Bool, true, false, Some, None, List, ◌∷◌}
use Rattle.lfg_model.specs.declared.lexeme.Lexeme.{Lexeme}
use Rattle.lfg_model.specs.declared.lexeme.Lexeme.TheVariants.{Word, OpenBracket, CloseBracket, OpenBrace, Star, Plus}
use Rattle.lfg_model.specs.declared.notation.Repetition.{Repetition}
use Rattle.lfg_model.specs.declared.notation.Repetition.TheVariants.{Once, AnyTimes, OnceOrMore}
use Rattle.lfg_model.specs.PathExpressions.{PathExpression, attribute, row, one_of, star, plus, expressions_from}
use Rattle.lfg_model.specs.Nests.{◌>>=◌, Reader, Readers, Nest}

-- the sign of repetition in front, if there is one
abbrev pub repetition_at : List Lexeme → Repetition × List Lexeme
repetition_at (Star ∷ ls) = (AnyTimes, ls)
repetition_at (Plus ∷ ls) = (OnceOrMore, ls)
repetition_at ls = (Once, ls)

-- a path so often
abbrev pub repeat_path : Repetition → PathExpression → PathExpression
repeat_path Once p = p
repeat_path AnyTimes p = star p
repeat_path OnceOrMore p = plus p

-- a path with the sign of repetition behind it
abbrev pub repeated_path : PathExpression → List Lexeme → PathExpression × List Lexeme
repeated_path p ls = let r = repetition_at ls in (repeat_path r.0 p, r.1)

-- the parts one after the other
abbrev pub path_row : List PathExpression → PathExpression
path_row ps = row (expressions_from ps)

-- behind the parts in brackets: the closing bracket
abbrev pub closed_path : List PathExpression → Reader PathExpression
closed_path ps (CloseBracket ∷ ls) = Some (repeated_path (path_row ps) ls)
closed_path ps ls = None

-- a part of a path
abbrev pub part_by : Readers PathExpression PathExpression → Reader PathExpression
part_by r (Word name ∷ ls) = Some (repeated_path (attribute name) ls)
part_by r (OpenBrace ∷ ls) = r.branches ls >>= λ b. Some (repeated_path (one_of (expressions_from b.0)) b.1)
part_by r (OpenBracket ∷ ls) = r.row ls >>= λ p. closed_path p.0 p.1
part_by r ls = None

-- a part of a path begins here
abbrev pub begins_path : List Lexeme → Bool
begins_path (Word name ∷ ls) = true
begins_path (OpenBrace ∷ ls) = true
begins_path (OpenBracket ∷ ls) = true
begins_path ls = false

-- paths: parts one after the other
abbrev pub paths : Nest PathExpression PathExpression
paths = record { item = part_by; begins = begins_path; branch = path_row }
