-- A text says one draft at most, or is none for one reason; never both, and always one of them.
use Rattle.std.proofs.Common.{◌≡◌, ℕ, ◌≤◌, Bool, true, false, ◌⊎◌, inl, inr, Option, Some, None, Result, Ok, Err, List, [], ◌∷◌, length, map, refl, ap, sym, ◌∙◌, arith}
use Rattle.std.specs.Str.{IsUtf8, is_utf8, chars}
use Rattle.std.specs.Str.Lossy.{utf8_valid_len}
use Rattle.std.proofs.lemmas.Bool.{false≢true}
use Rattle.std.proofs.lemmas.Str.{encodes-chars, IsUtf8-from_is_utf8, is_utf8-from_IsUtf8}
use Rattle.lfg_model.specs.declared.lexeme.Lexeme.{Lexeme}
use Rattle.lfg_model.specs.declared.token.Token.{Token}
use Rattle.lfg_model.specs.DraftForms.{DraftForm}
use Rattle.lfg_model.specs.Drafts.{HasTokens, LexemesFault, Drafts, FileFault, not_utf8, no_token, no_lexemes, HasFault, said, lexemes_of, SomeDraft, OneDraft, OneFault, NeverBoth}
use Rattle.lfg_model.specs.Tokens.{Tokens, done, past_gap, past_token, Stuck, width}
use Rattle.lfg_model.proofs.OneReading.{one_row, one_place, not_both}
use Rattle.lfg_model.proofs.SomeReading.{some_reading}
use Rattle.lfg_model.proofs.PieceEnds.{piece_shorter, width_len}

says_both : {X Y : Type 0} (r : Result X Y) (x y : X) → r ≡ Ok x → r ≡ Ok y → x ≡ y
says_both r x y e f = cc

fails_both : {X Y : Type 0} (r : Result X Y) (x y : Y) → r ≡ Err x → r ≡ Err y → x ≡ y
fails_both r x y e f = cc

never_said : {X Y : Type 0} (r : Result X Y) (x : X) (y : Y) → r ≡ Ok x → r ≡ Err y → ⊥
never_said r x y e f = cc

same_tokens : (bytes : List ℕ) (ts us : List Token) → HasTokens bytes ts → HasTokens bytes us → said (lexemes_of ts) ≡ said (lexemes_of us)
same_tokens bytes ts us t u = ap (λ (vs : List Token). said (lexemes_of vs)) (one_row t.read u.read)

pub one_draft : OneDraft
one_draft bytes d e p q = says_both (said (lexemes_of q.tokens)) d e (sym (same_tokens bytes p.tokens q.tokens p.has q.has) ∙ p.says) q.says

pub one_fault : OneFault
one_fault bytes (not_utf8 a) (not_utf8 b) p q = ap not_utf8 (p.1 ∙ sym q.1)
one_fault bytes (not_utf8 a) (no_token b) p q = absurd (p.0 q.0)
one_fault bytes (not_utf8 a) (no_lexemes g) p q = absurd (p.0 q.has.utf8)
one_fault bytes (no_token a) (not_utf8 b) p q = absurd (q.0 p.0)
one_fault bytes (no_token a) (no_token b) p q = ap no_token (one_place p.1 q.1)
one_fault bytes (no_token a) (no_lexemes g) p q = absurd (not_both q.has.read p.1)
one_fault bytes (no_lexemes f) (not_utf8 b) p q = absurd (q.0 p.has.utf8)
one_fault bytes (no_lexemes f) (no_token b) p q = absurd (not_both p.has.read q.1)
one_fault bytes (no_lexemes f) (no_lexemes g) p q = ap no_lexemes (fails_both (said (lexemes_of q.tokens)) f g (sym (same_tokens bytes p.tokens q.tokens p.has q.has) ∙ p.says) q.says)

pub never_both : NeverBoth
never_both bytes d (not_utf8 a) p q = q.0 p.has.utf8
never_both bytes d (no_token a) p q = not_both p.has.read q.1
never_both bytes d (no_lexemes g) p q = never_said (said (lexemes_of q.tokens)) d g (sym (same_tokens bytes p.tokens q.tokens p.has q.has) ∙ p.says) q.says

-- there are no more tokens than characters, and no more characters than bytes
pub tokens_few : {at : ℕ} {cs : List ℕ} {ts : List Token} → Tokens at cs ts → length ts ≤ length cs
tokens_few done = omega arith
tokens_few (past_gap {cs = cs} {ds = ds} e w t) = let h = piece_shorter cs ds _ e in let k = tokens_few t in omega arith
tokens_few (past_token {cs = cs} {ds = ds} e w t) = let h = piece_shorter cs ds _ e in let k = tokens_few t in omega arith

pub chars_few : (bytes : List ℕ) → IsUtf8 bytes → length (chars bytes) ≤ length bytes
chars_few bytes u = let h = width_len (chars bytes) in let k : width (chars bytes) ≡ length bytes = ap length (encodes-chars bytes u) in omega arith

said_or_fault : (bytes : List ℕ) (ts : List Token) → HasTokens bytes ts → (r : Result DraftForm LexemesFault) → said (lexemes_of ts) ≡ r → ((d : DraftForm) × Drafts bytes d) ⊎ ((f : FileFault) × HasFault bytes f)
said_or_fault bytes ts h (Ok d) e = inl (d, record { tokens = ts; has = h; says = e })
said_or_fault bytes ts h (Err f) e = inr (no_lexemes f, record { tokens = ts; has = h; says = e })

read_or_stuck : (bytes : List ℕ) → IsUtf8 bytes → ((ts : List Token) × Tokens 0 (chars bytes) ts) ⊎ ((stop : ℕ) × Stuck 0 (chars bytes) stop) → ((d : DraftForm) × Drafts bytes d) ⊎ ((f : FileFault) × HasFault bytes f)
read_or_stuck bytes u (inl t) = said_or_fault bytes t.0 (record { utf8 = u; read = t.1 }) (said (lexemes_of t.0)) refl
read_or_stuck bytes u (inr s) = inr (no_token s.0, (u, s.1))

utf8_or_not : (bytes : List ℕ) (b : Bool) → is_utf8 bytes ≡ b → ((d : DraftForm) × Drafts bytes d) ⊎ ((f : FileFault) × HasFault bytes f)
utf8_or_not bytes true e = read_or_stuck bytes (IsUtf8-from_is_utf8 bytes e) (some_reading (chars bytes))
utf8_or_not bytes false e = inr (not_utf8 (utf8_valid_len bytes), (λ u. false≢true (sym e ∙ is_utf8-from_IsUtf8 bytes u), refl))

pub some_draft : SomeDraft
some_draft bytes = utf8_or_not bytes (is_utf8 bytes) refl
