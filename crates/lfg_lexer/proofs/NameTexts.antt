-- How the text of a name grows.
use Rattle.std.proofs.Common.{◌≡◌, ℕ, Some, None, List, ◌++◌, ap, sym, ◌∙◌, append_assoc, append-nil}
use Rattle.std.specs.Char.{encode_utf8}
use Rattle.std.specs.Str.{encode_utf8_all}
use Rattle.lfg_model.specs.Pieces.{char_at, joined_at, name_on}
use Rattle.lfg_model.proofs.NameFronts.{name_then, joined_then, name_end}
use Rattle.lfg_lexer.specs.Seen.{added, pair}

pub ended : (front cs : List ℕ) → char_at cs ≡ None → joined_at cs ≡ None → added front (name_on cs) ≡ pair front cs
ended front cs n e = ap (added front) (name_end cs n e) ∙ ap (λ (xs : List ℕ). pair xs cs) (append-nil front)

pub stepped : (front text cs ds : List ℕ) (c : ℕ) → char_at cs ≡ Some (c, ds) → text ≡ front ++ encode_utf8 c → added text (name_on ds) ≡ added front (name_on cs)
stepped front text cs ds c e h =
    ap (λ (xs : List ℕ). added xs (name_on ds)) h ∙ ap (λ (xs : List ℕ). pair xs (name_on ds).1) (append_assoc front (encode_utf8 c) (encode_utf8_all (name_on ds).0)) ∙ ap (added front) (sym (name_then cs ds c e))

pub leapt : (front mid text cs ds : List ℕ) (c : ℕ) → char_at cs ≡ None → joined_at cs ≡ Some (c, ds) → mid ≡ front ++ encode_utf8 45 → text ≡ mid ++ encode_utf8 c → added text (name_on ds) ≡ added front (name_on cs)
leapt front mid text cs ds c n e m h =
    ap (λ (xs : List ℕ). added xs (name_on ds)) (h ∙ ap (λ (xs : List ℕ). xs ++ encode_utf8 c) m)
    ∙ ap (λ (xs : List ℕ). pair xs (name_on ds).1) (append_assoc (front ++ encode_utf8 45) (encode_utf8 c) (encode_utf8_all (name_on ds).0) ∙ append_assoc front (encode_utf8 45) (encode_utf8 c ++ encode_utf8_all (name_on ds).0))
    ∙ ap (added front) (sym (joined_then cs ds c n e))
