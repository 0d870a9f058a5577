-- The tokens of a line. A text is the list of its bytes, and `chars` reads its characters.
use Rattle.std.specs.Prelude.{ℕ, Bool, not, List, [], ◌∷◌, map, filter, if◌then◌else◌}
use Rattle.std.specs.Char.{is_whitespace, is_ascii_uppercase, to_ascii_lowercase}
use Rattle.std.specs.List.{list_all}
use Rattle.std.specs.Str.{chars, encode_utf8_all}
use Rattle.lfg_terms.specs.declared.tree.TokenForms.{TokenForms}
use Rattle.unicode_segmentation.specs.Word.{word_bounds}

-- the text is white space alone
abbrev pub is_white : List ℕ → Bool
is_white text = list_all is_whitespace (chars text)

-- what stands between the word bounds of a line, in order, without what is white space alone
abbrev pub pieces : List ℕ → List (List ℕ)
pieces line = filter (λ piece. not (is_white piece)) (word_bounds line)

-- the text of these characters with the first in lower case, if that is an ASCII capital, and else
-- nothing
abbrev pub lowered : List ℕ → List (List ℕ)
lowered [] = []
lowered (c ∷ cs) = if is_ascii_uppercase c then (encode_utf8_all (to_ascii_lowercase c ∷ cs) ∷ []) else []

-- the first token of a line, with this text: its forms are the text and, where it begins with an
-- ASCII capital, the text with that letter in lower case
abbrev pub first_token : List ℕ → TokenForms
first_token text = record { text = text; forms = text ∷ lowered (chars text) }

-- a later token, with this text: its text is its only form
abbrev pub token_of : List ℕ → TokenForms
token_of text = record { text = text; forms = text ∷ [] }

-- the tokens with these texts
abbrev pub tokens_of : List (List ℕ) → List TokenForms
tokens_of [] = []
tokens_of (text ∷ texts) = first_token text ∷ map token_of texts

-- the tokens of a line
abbrev pub tokens : List ℕ → List TokenForms
tokens line = tokens_of (pieces line)
