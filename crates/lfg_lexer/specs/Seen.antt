-- What the program read, as the definitions have it.
use Rattle.std.specs.Prelude.{◌≡◌, ℕ, Option, Some, None, List, [], ◌∷◌, ◌++◌}
use Rattle.std.specs.Str.{encode_utf8_all}
use Rattle.lfg_lexer.specs.declared.pieces.Piece.{Piece as Found}
use Rattle.lfg_lexer.specs.declared.pieces.Piece.TheVariants.{Gap, Token}
use Rattle.lfg_model.specs.declared.token.Token.{Token as TokenOf}
use Rattle.lfg_model.specs.Pieces.{Piece, gap, token}

-- nothing was read where nothing is to be read, and else this and what is behind it
abbrev pub Reads : {X Y R : Type 0} → (X → R → Y) → Option (X × R) → Option Y → Type 0
Reads view None read = read ≡ None
Reads view (Some x) read = read ≡ Some (view x.0 x.1)

abbrev pub piece : Found → Piece
piece Gap = gap
piece (Token kind text) = token kind text

-- the tokens that a piece between these places adds
abbrev pub kept : Piece → ℕ → ℕ → List TokenOf
kept gap at to = []
kept (token kind text) at to = record { kind = kind; text = text; at = at; to = to } ∷ []

-- a name's text, and what is behind the name
abbrev pub pair : List ℕ → List ℕ → List ℕ × List ℕ
pair text rest = (text, rest)

-- how a name goes on, behind what was read of its text
abbrev pub added : List ℕ → List ℕ × List ℕ → List ℕ × List ℕ
added front r = (front ++ encode_utf8_all r.0, r.1)
