-- The tokens of a text.
use Rattle.std.specs.Prelude.{◌≡◌, ℕ, ◌+◌, ◌≤◌, ◌++◌, ◌==◌, true, false, Option, Some, None, List, [], ◌∷◌, Contains, codes, length}
use Rattle.std.specs.Str.{encode_utf8_all}
use Rattle.lfg_model.specs.declared.token.TokenKind.{TokenKind}
use Rattle.lfg_model.specs.declared.token.TokenKind.TheVariants.{Name, Symbol}
use Rattle.lfg_model.specs.declared.token.Token.{Token}
use Rattle.lfg_model.specs.Pieces.{Piece, gap, token, piece_at, is_plain, goes_on, symbols}

-- how many bytes the characters take
abbrev pub width : List ℕ → ℕ
width cs = length (encode_utf8_all cs)

-- the characters from byte `at` on are a row of white space, comments and these tokens
pub data Tokens : ℕ → List ℕ → List Token → Type 0 where
  done : {at : ℕ} → Tokens at [] []
  past_gap : {at to : ℕ} {cs ds : List ℕ} {ts : List Token} → piece_at cs ≡ Some (gap, ds) → at + width cs ≡ to + width ds → Tokens to ds ts → Tokens at cs ts
  past_token : {at to : ℕ} {cs ds text : List ℕ} {kind : TokenKind} {ts : List Token} → piece_at cs ≡ Some (token kind text, ds) → at + width cs ≡ to + width ds → Tokens to ds ts
      → Tokens at cs (record { kind = kind; text = text; at = at; to = to } ∷ ts)

-- of the characters from byte `at` on nothing begins at byte `stop`, and all before it was read
pub data Stuck : ℕ → List ℕ → ℕ → Type 0 where
  here : {at c : ℕ} {cs : List ℕ} → piece_at (c ∷ cs) ≡ None → Stuck at (c ∷ cs) at
  further : {at to stop : ℕ} {cs ds : List ℕ} {p : Piece} → piece_at cs ≡ Some (p, ds) → at + width cs ≡ to + width ds → Stuck to ds stop → Stuck at cs stop

-- a name character as it is written: by itself, or behind a backquote, where it is no line feed
pub data IsNameChar : List ℕ → ℕ → Type 0 where
  plain : {c : ℕ} → is_plain c ≡ true → IsNameChar (c ∷ []) c
  quoted : {c : ℕ} → (c == 10) ≡ false → IsNameChar (96 ∷ c ∷ []) c

-- a name as it is written, and its characters: pieces of name characters, joined by single hyphens
pub data IsName : List ℕ → List ℕ → Type 0 where
  one : {w : List ℕ} {c : ℕ} → IsNameChar w c → IsName w (c ∷ [])
  more : {w v t : List ℕ} {c : ℕ} → IsNameChar w c → IsName v t → IsName (w ++ v) (c ∷ t)
  joined : {w v t : List ℕ} {c : ℕ} → IsNameChar w c → IsName v t → IsName (w ++ 45 ∷ v) (c ∷ 45 ∷ t)

-- a token of this kind as it is written, with its text, before the characters `rest`:
-- a name, a symbol of the list, or `=c` where no name goes on behind it
pub data IsToken : TokenKind → List ℕ → List ℕ → List ℕ → Type 0 where
  name : {w t rest : List ℕ} → IsName w t → IsToken Name w (encode_utf8_all t) rest
  symbol : {s rest : List ℕ} → Contains symbols s → IsToken Symbol s s rest
  equal_c : {rest : List ℕ} → goes_on rest ≡ false → IsToken Symbol (codes "=c") (codes "=c") rest

-- in front of `cs` stands this token, with `rest` behind it, and no longer token stands there
pub record LongestToken (kind : TokenKind) (cs text rest : List ℕ) : Type 0 where
  pub written : List ℕ
  pub is : cs ≡ written ++ rest
  pub token : IsToken kind written text rest
  pub longest : (other : TokenKind) (v t more : List ℕ) → IsToken other v t more → cs ≡ v ++ more → length v ≤ length written

-- a piece that is a token
abbrev pub IsTokenPiece : Piece → Type 0
IsTokenPiece gap = ⊥
IsTokenPiece (token kind text) = Unit {0}

-- a token was read
abbrev pub GivesToken : Option (Piece × List ℕ) → Type 0
GivesToken None = ⊥
GivesToken (Some x) = IsTokenPiece x.0
