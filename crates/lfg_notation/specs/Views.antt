-- What the program holds, as the definitions have it.
use Rattle.std.specs.Prelude.{ℕ, ◌+◌, List, [], ◌∷◌, Vec, length, map}
use Rattle.std.specs.Global.{Global}
use Rattle.lfg_terms.specs.declared.draft.LexEntry.{LexEntry}
use Rattle.lfg_terms.specs.declared.draft.Rhs.{Rhs}
use Rattle.lfg_terms.specs.declared.grammar.Schema.{Schema}
use Rattle.lfg_terms.specs.declared.path_expr.PathExpr.{PathExpr}
use Rattle.lfg_model.specs.declared.lexeme.Lexeme.{Lexeme}
use Rattle.lfg_model.specs.RightSides.{DraftAnnotation, draft_annotation_of, draft_des_of, DraftSchema, draft_schema_of, RightSide, right_side_of}
use Rattle.lfg_model.specs.DraftForms.{DraftForm, rule_form, template_form, WordForm, word_form}
use Rattle.lfg_model.specs.Drafts.{Numbered, Section}
use Rattle.lfg_model.specs.EntryNotation.{Piece}
use Rattle.lfg_model.specs.SchemaNotation.{Left}
use Rattle.lfg_model.specs.Terms.{Name}
use Rattle.lfg_notation.specs.declared.cutting.Cut.{Cut}
use Rattle.lfg_notation.specs.declared.designators.Left.{Left as Begun}
use Rattle.lfg_notation.specs.declared.entries.Parts.{Parts}
use Rattle.lfg_notation.specs.declared.sections.Section.{Section as Found}

-- what a schema begins with
abbrev pub left_of : Begun → Left
left_of l = record { des = draft_des_of l.des; is_long = l.is_long; is_pred = l.is_pred }

-- names, and what is behind them
abbrev pub named : List Name → List Lexeme → List Name × List Lexeme
named names rest = (names, rest)

-- a branch of a disjunction
abbrev pub branch_of : Vec (Schema PathExpr) Global → DraftAnnotation
branch_of b = draft_annotation_of b.items

-- terms, and what is behind them
abbrev pub sides_before : Vec Rhs Global → List Lexeme → List RightSide × List Lexeme
sides_before parts rest = (map right_side_of parts.items, rest)

-- schemata, and what is behind them
abbrev pub schemata_before : Vec (Schema PathExpr) Global → List Lexeme → List DraftSchema × List Lexeme
schemata_before parts rest = (map draft_schema_of parts.items, rest)

-- a piece that was cut off
abbrev pub piece_of : Cut → Piece
piece_of c = record { lexemes = c.lexemes.now; is_ended = c.is_ended }

-- the readings of a word
abbrev pub words_form : Vec LexEntry Global → List WordForm
words_form v = map word_form v.items

-- the parts of a draft
abbrev pub parts_form : Parts → DraftForm
parts_form p = record { settings = p.settings.items; rules = map rule_form p.rules.items; templates = map template_form p.templates.items; words = map word_form p.words.items }

-- the parts of a draft, and the number of the next entry
abbrev pub numbered : ℕ → Parts → Numbered
numbered n p = record { number = n; draft = parts_form p }

-- a section
abbrev pub section_form : Found → Section
section_form s = record { kind = s.kind; entries = s.entries.now }

-- how many lexemes stand behind the headings of the sections
abbrev pub sections_size : List Found → ℕ
sections_size [] = 0
sections_size (s ∷ ss) = length s.entries.now + sections_size ss
