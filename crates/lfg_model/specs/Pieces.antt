-- What stands at the front of a row of characters: white space, a comment, a name or a symbol.
use Rattle.std.specs.Prelude.{ℕ, Bool, false, cond, not, ◌&&◌, ◌||◌, ◌==◌, nat_lt, Option, Some, None, List, [], ◌∷◌, codes}
use Rattle.std.specs.Char.{is_whitespace, is_ascii_alphanumeric}
use Rattle.std.specs.Str.{encode_utf8_all}
use Rattle.lfg_model.specs.declared.token.TokenKind.{TokenKind}
use Rattle.lfg_model.specs.declared.token.TokenKind.TheVariants.{Name, Symbol}

-- a name character that stands for itself: an ASCII letter or digit, `_`, or one past ASCII that is no white space
abbrev pub is_plain : ℕ → Bool
is_plain c = (is_ascii_alphanumeric c || c == 95) || (nat_lt 127 c && not (is_whitespace c))

-- behind a backquote any character is a name character, unless it is a line feed
abbrev pub quoted_at : List ℕ → Option (ℕ × List ℕ)
quoted_at [] = None
quoted_at (c ∷ cs) = cond (c == 10) None (Some (c, cs))

-- the name character in front, without its backquote, and what is behind it
abbrev pub char_at : List ℕ → Option (ℕ × List ℕ)
char_at [] = None
char_at (c ∷ cs) = cond (is_plain c) (Some (c, cs)) (cond (c == 96) (quoted_at cs) None)

-- the name character behind a hyphen in front, and what is behind it
abbrev pub joined_at : List ℕ → Option (ℕ × List ℕ)
joined_at [] = None
joined_at (c ∷ cs) = cond (c == 45) (char_at cs) None

-- a character before a name's text
abbrev pub put : ℕ → List ℕ × List ℕ → List ℕ × List ℕ
put c r = (c ∷ r.0, r.1)

-- how a name goes on behind one of its characters: its further text, and what is behind the name.
-- It goes on with a name character, by itself or behind a backquote, and with a hyphen that a name character
-- follows. A backquote or a hyphen that begins none of these is given back.
abbrev mutual
  pub name_on : List ℕ → List ℕ × List ℕ
  name_on [] = ([], [])
  name_on (c ∷ cs) = cond (is_plain c) (put c (name_on cs)) (cond (c == 96) (quoted_on c cs) (cond (c == 45) (joined_on c cs) ([], c ∷ cs)))

  -- behind a backquote
  pub quoted_on : ℕ → List ℕ → List ℕ × List ℕ
  quoted_on q [] = ([], q ∷ [])
  quoted_on q (c ∷ cs) = cond (c == 10) ([], q ∷ c ∷ cs) (put c (name_on cs))

  -- behind a hyphen
  pub joined_on : ℕ → List ℕ → List ℕ × List ℕ
  joined_on h [] = ([], h ∷ [])
  joined_on h (c ∷ cs) = cond (is_plain c) (put 45 (put c (name_on cs))) (cond (c == 96) (joined_quoted_on h c cs) ([], h ∷ c ∷ cs))

  -- behind a hyphen and a backquote
  pub joined_quoted_on : ℕ → ℕ → List ℕ → List ℕ × List ℕ
  joined_quoted_on h q [] = ([], h ∷ q ∷ [])
  joined_quoted_on h q (c ∷ cs) = cond (c == 10) ([], h ∷ q ∷ c ∷ cs) (put 45 (put c (name_on cs)))

-- what is behind the end of a comment, which is the next double quote
abbrev pub comment_at : List ℕ → Option (List ℕ)
comment_at [] = None
comment_at (c ∷ cs) = cond (c == 34) (Some cs) (comment_at cs)

-- what is behind these characters, where they stand in front
abbrev pub behind : List ℕ → List ℕ → Option (List ℕ)
behind [] cs = Some cs
behind (p ∷ ps) [] = None
behind (p ∷ ps) (c ∷ cs) = cond (p == c) (behind ps cs) None

-- a name character, a hyphen or a backquote is in front
abbrev pub goes_on : List ℕ → Bool
goes_on [] = false
goes_on (c ∷ cs) = is_plain c || (c == 45 || c == 96)

-- the symbols but `=c`, a longer one before those that begin it
unfoldable pub symbols : List (List ℕ)
symbols = codes "----" ∷ codes "-->" ∷ codes "==>" ∷ codes "?=>" ∷ codes ":=" ∷ codes "::" ∷ codes "~=" ∷ codes "=" ∷ codes "~" ∷ codes "^" ∷ codes "!" ∷ codes "$" ∷ codes "@" ∷ codes "(" ∷ codes ")"
    ∷ codes "[" ∷ codes "]" ∷ codes "{" ∷ codes "}" ∷ codes "<" ∷ codes ">" ∷ codes "|" ∷ codes "'" ∷ codes "*" ∷ codes "+" ∷ codes "-" ∷ codes "," ∷ codes ";" ∷ codes ":" ∷ codes "." ∷ codes "%" ∷ []

-- the first answer, or else the second
abbrev pub or_else : {A : Type 0} → Option A → Option A → Option A
or_else (Some x) o = Some x
or_else None o = o

-- what was read, where something is left behind it
abbrev pub read_as : {A : Type 0} → A → Option (List ℕ) → Option (A × List ℕ)
read_as a None = None
read_as a (Some cs) = Some (a, cs)

-- the first of these symbols that stands in front, and what is behind it
abbrev pub symbol_in : List (List ℕ) → List ℕ → Option (List ℕ × List ℕ)
symbol_in [] cs = None
symbol_in (s ∷ ss) cs = or_else (read_as s (behind s cs)) (symbol_in ss cs)

-- no name, hyphen or backquote follows
abbrev pub alone : Option (List ℕ) → Option (List ℕ)
alone None = None
alone (Some cs) = cond (goes_on cs) None (Some cs)

-- what is behind `=c`, which is read only where nothing goes on behind the `c`
abbrev pub equal_c_at : List ℕ → Option (List ℕ)
equal_c_at cs = alone (behind (61 ∷ 99 ∷ []) cs)

-- the longest symbol in front, and what is behind it
abbrev pub symbol_at : List ℕ → Option (List ℕ × List ℕ)
symbol_at cs = or_else (read_as (61 ∷ 99 ∷ []) (equal_c_at cs)) (symbol_in symbols cs)

-- what can stand in front: a gap, which is white space or a comment, or a token with its text
pub data Piece : Type 0 where
  gap : Piece
  token : TokenKind → List ℕ → Piece

-- a name from its first character and how it goes on
abbrev pub named : ℕ → List ℕ × List ℕ → Piece × List ℕ
named c r = (token Name (encode_utf8_all (c ∷ r.0)), r.1)

abbrev pub name_from : Option (ℕ × List ℕ) → Option (Piece × List ℕ)
name_from None = None
name_from (Some x) = Some (named x.0 (name_on x.1))

abbrev pub symbol_from : Option (List ℕ × List ℕ) → Option (Piece × List ℕ)
symbol_from None = None
symbol_from (Some x) = Some (token Symbol x.0, x.1)

-- the piece in front and what is behind it: a character of white space, a comment, a name or a symbol
unfoldable pub piece_at : List ℕ → Option (Piece × List ℕ)
piece_at [] = None
piece_at (c ∷ cs) = cond (is_whitespace c) (Some (gap, cs)) (cond (c == 34) (read_as gap (comment_at cs))
    (or_else (name_from (char_at (c ∷ cs))) (symbol_from (symbol_at (c ∷ cs)))))
