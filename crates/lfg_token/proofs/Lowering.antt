-- The second form of a first token, as it is put together.
use Rattle.std.proofs.Common.{◌≡◌, ℕ, true, List, [], ◌∷◌, ◌++◌, ap, ◌∙◌}
use Rattle.std.proofs.lemmas.Str.{chars_past_char, IsUtf8-past_char, encodes-chars}
use Rattle.std.specs.Char.{is_ascii_uppercase, to_ascii_lowercase}
use Rattle.std.specs.Prelude.{encode_utf8, if◌then◌else◌}
use Rattle.std.specs.Str.{chars, encode_utf8_all, IsUtf8}
use Rattle.lfg_token.specs.Words.{lowered}

pub lowered_capital : (text rest : List ℕ) (c : ℕ) → IsUtf8 text → text ≡ encode_utf8 c ++ rest → is_ascii_uppercase c ≡ true → lowered (chars text) ≡ (encode_utf8 (to_ascii_lowercase c) ++ rest) ∷ []
lowered_capital text rest c utf8 is capital =
    ap lowered (chars_past_char text rest c utf8 is)
    ∙ ap (λ b. if b then (encode_utf8_all (to_ascii_lowercase c ∷ chars rest) ∷ []) else []) capital
    ∙ ap (λ t. (encode_utf8 (to_ascii_lowercase c) ++ t) ∷ []) (encodes-chars rest (IsUtf8-past_char text rest c utf8 is))
