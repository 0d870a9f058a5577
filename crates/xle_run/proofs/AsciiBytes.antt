-- Bytes that pass a test of ASCII are text.
use Rattle.std.proofs.Common.{◌≡◌, ℕ, ◌<◌, ◌&&◌, Bool, true, false, List, [], ◌∷◌, get_or, zero, suc, refl, arith}
use Rattle.std.proofs.lemmas.Bool.Decides.{nat_tests}
use Rattle.std.specs.List.{list_all}
use Rattle.std.specs.Str.{IsUtf8}
use Rattle.std.proofs.lemmas.Str.{IsUtf8-from_ascii}
use Rattle.lfg_model.specs.ThinText.{is_thin_byte, is_sentence_byte}

and_parts : (a b : Bool) → (a && b) ≡ true → (a ≡ true) × (b ≡ true)
and_parts true true e = (refl, refl)
and_parts true false e = cc
and_parts false b e = cc

below : (t : ℕ → Bool) → ((b : ℕ) → t b ≡ true → b < 128) → (bs : List ℕ) (k : ℕ) → list_all t bs ≡ true → get_or bs k 0 < 128
below t ascii [] k e = omega arith
below t ascii (b ∷ bs) zero e = ascii b (and_parts (t b) (list_all t bs) e).0
below t ascii (b ∷ bs) (suc k) e = below t ascii bs k (and_parts (t b) (list_all t bs) e).1

thin_is_ascii : (b : ℕ) → is_thin_byte b ≡ true → b < 128
thin_is_ascii b e = grind (arith, nat_tests)

sentence_is_ascii : (b : ℕ) → is_sentence_byte b ≡ true → b < 128
sentence_is_ascii b e = grind (arith, nat_tests)

pub thin_utf8 : (bs : List ℕ) → list_all is_thin_byte bs ≡ true → IsUtf8 bs
thin_utf8 bs e = IsUtf8-from_ascii bs (λ k. below is_thin_byte thin_is_ascii bs k e)

pub sentence_utf8 : (bs : List ℕ) → list_all is_sentence_byte bs ≡ true → IsUtf8 bs
sentence_utf8 bs e = IsUtf8-from_ascii bs (λ k. below is_sentence_byte sentence_is_ascii bs k e)
