-- The right sides of rules as they are written.
use Rattle.std.specs.Prelude.{Bool, true, false, cond, Some, None, List, [], ◌∷◌}
use Rattle.lfg_model.specs.declared.lexeme.Lexeme.{Lexeme}
use Rattle.lfg_model.specs.declared.lexeme.Lexeme.TheVariants.{Word, Open, Close, OpenBracket, CloseBracket, OpenBrace, CloseBrace, Bar, Semicolon, Colon}
use Rattle.lfg_model.specs.declared.notation.Repetition.{Repetition}
use Rattle.lfg_model.specs.declared.notation.Repetition.TheVariants.{Once, AnyTimes, OnceOrMore}
use Rattle.lfg_model.specs.Terms.{Name}
use Rattle.lfg_model.specs.RightSides.{DraftSchema, draft_annotation_from, RightSide, item, row, one_of, optional, star, plus, right_sides_from}
use Rattle.lfg_model.specs.Nests.{◌>>=◌, Reader, Readers, Nest, readers}
use Rattle.lfg_model.specs.PathNotation.{repetition_at}
use Rattle.lfg_model.specs.SchemaNotation.{schemata}

-- a right side so often
abbrev pub repeat_side : Repetition → RightSide → RightSide
repeat_side Once x = x
repeat_side AnyTimes x = star x
repeat_side OnceOrMore x = plus x

-- a semicolon may stand behind a term
abbrev pub ended_term : RightSide → List Lexeme → RightSide × List Lexeme
ended_term x (Semicolon ∷ ls) = (x, ls)
ended_term x ls = (x, ls)

-- a term with the sign of repetition, and maybe a semicolon, behind it
abbrev pub repeated_term : RightSide → List Lexeme → RightSide × List Lexeme
repeated_term x ls = let r = repetition_at ls in ended_term (repeat_side r.0 x) r.1

-- the parts one after the other
abbrev pub side_row : List RightSide → RightSide
side_row xs = row (right_sides_from xs)

-- what encloses a term ends here, or the entry does
abbrev pub closes_term : List Lexeme → Bool
closes_term [] = true
closes_term (Close ∷ ls) = true
closes_term (CloseBracket ∷ ls) = true
closes_term (CloseBrace ∷ ls) = true
closes_term (Bar ∷ ls) = true
closes_term ls = false

-- a term with an annotation ends with a semicolon, unless what encloses it ends
abbrev pub annotated_term : RightSide → Reader RightSide
annotated_term x (Semicolon ∷ ls) = Some (x, ls)
annotated_term x ls = cond (closes_term ls) (Some (x, ls)) None

-- a category with this annotation
abbrev pub annotated : Name → List DraftSchema → RightSide
annotated cat ss = item cat (Some (draft_annotation_from ss))

-- behind a category and its sign of repetition: an annotation, if there is one
abbrev pub behind_category : Name → Repetition → Reader RightSide
behind_category cat often (Colon ∷ ls) = (readers schemata).row ls >>= λ a. annotated_term (repeat_side often (annotated cat a.0)) a.1
behind_category cat often ls = Some (ended_term (repeat_side often (item cat None)) ls)

-- a term that is a category, behind its name
abbrev pub category_at : Name → Reader RightSide
category_at cat ls = let r = repetition_at ls in behind_category cat r.0 r.1

-- behind the terms of an option: the closing bracket
abbrev pub closed_optional : List RightSide → Reader RightSide
closed_optional xs (Close ∷ ls) = Some (ended_term (optional (side_row xs)) ls)
closed_optional xs ls = None

-- behind the terms in square brackets: the closing bracket
abbrev pub closed_row : List RightSide → Reader RightSide
closed_row xs (CloseBracket ∷ ls) = Some (repeated_term (side_row xs) ls)
closed_row xs ls = None

-- a term
abbrev pub term_by : Readers RightSide RightSide → Reader RightSide
term_by r (Word cat ∷ ls) = category_at cat ls
term_by r (Open ∷ ls) = r.row ls >>= λ s. closed_optional s.0 s.1
term_by r (OpenBrace ∷ ls) = r.branches ls >>= λ b. Some (repeated_term (one_of (right_sides_from b.0)) b.1)
term_by r (OpenBracket ∷ ls) = r.row ls >>= λ s. closed_row s.0 s.1
term_by r ls = None

-- a term begins here
abbrev pub begins_term : List Lexeme → Bool
begins_term (Word cat ∷ ls) = true
begins_term (Open ∷ ls) = true
begins_term (OpenBrace ∷ ls) = true
begins_term (OpenBracket ∷ ls) = true
begins_term ls = false

-- right sides: terms one after the other
abbrev pub terms : Nest RightSide RightSide
terms = record { item = term_by; begins = begins_term; branch = side_row }
