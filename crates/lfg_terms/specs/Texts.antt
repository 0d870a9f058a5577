-- The texts of names and edges.
use Rattle.std.specs.Prelude.{◌≡◌, ◌<◌, ◌^◌, ℕ, Bool, false, not, ◌&&◌, ◌||◌, ◌==◌, if◌then◌else◌, List, [], ◌∷◌, ◌++◌, length, take, Option, Some, None, decimal}
use Rattle.std.specs.Char.{is_ascii_alphanumeric}
use Rattle.std.specs.Int.{is_in_range}
use Rattle.lfg_terms.specs.declared.node.Edge.{Edge}

-- ---- bytes with a meaning

abbrev pub hyphen : ℕ
hyphen = 45

abbrev pub colon : ℕ
colon = 58

abbrev pub underscore : ℕ
underscore = 95

abbrev pub backquote : ℕ
backquote = 96

-- ---- names

-- a byte of a character past ASCII that is not its first: the backquote before the first is the character's
abbrev pub is_continuation : ℕ → Bool
is_continuation b = is_in_range 128 191 b

-- a byte that stands as it is wherever it stands
abbrev pub is_plain : ℕ → Bool
is_plain b = is_ascii_alphanumeric b || (b == underscore) || is_continuation b

-- a hyphen between these two stands as it is: it is neither first nor last, and no hyphen is beside it
abbrev pub joins : Option ℕ → Option ℕ → Bool
joins (Some left) (Some right) = not (left == hyphen) && not (right == hyphen)
joins (Some left) None = false
joins None after = false

-- the byte stands as it is between these two
abbrev pub is_bare : Option ℕ → ℕ → Option ℕ → Bool
is_bare before b after = is_plain b || ((b == hyphen) && joins before after)

-- the byte between these two, behind a backquote where it does not stand as it is
abbrev pub byte_text : Option ℕ → ℕ → Option ℕ → List ℕ
byte_text before b after = if is_bare before b after then b ∷ [] else (backquote ∷ b ∷ [])

-- the first byte, if there is one
abbrev pub first : List ℕ → Option ℕ
first [] = None
first (b ∷ bs) = Some b

-- the text of the bytes of a name that follow `before`
abbrev pub text_after : Option ℕ → List ℕ → List ℕ
text_after before [] = []
text_after before (b ∷ bs) = byte_text before b (first bs) ++ text_after (Some b) bs

-- a name: each byte as it stands between its neighbours
abbrev pub name_text : List ℕ → List ℕ
name_text = text_after None

-- ---- edges

-- an edge: the category, the start and the end, with colons between
abbrev pub edge_text : Edge → List ℕ
edge_text e = name_text e.cat ++ colon ∷ decimal e.from ++ colon ∷ decimal e.to

-- both places of the edge are numbers of 32 bits
abbrev pub IsPlaced : Edge → Type 0
IsPlaced e = (e.from < 2 ^ 32) × (e.to < 2 ^ 32)

-- ---- appending

-- what stood in a text still stands at its front
abbrev pub Keeps : List ℕ → List ℕ → Type 0
Keeps old new = take (length old) new ≡ old
