-- The tokens of a thin file: no white space stands in its names, and its lexemes are those that the
-- whole notation has for its tokens.
use Rattle.std.proofs.Common.{◌≡◌, ℕ, ◌<◌, Bool, true, false, cond, ◌&&◌, ◌||◌, ◌==◌, not, nat_lt, Option, Some, None, List, [], ◌∷◌, ◌++◌, All, refl, ap, sym, ◌∙◌, subst, arith}
use Rattle.std.specs.List.{list_all, list_any}
use Rattle.std.specs.Char.{is_whitespace}
use Rattle.std.specs.Str.{IsUtf8, IsAscii, chars, encode_utf8_all}
use Rattle.std.proofs.lemmas.Bool.{false≢true}
use Rattle.std.proofs.lemmas.Str.{IsUtf8-from_ascii, chars-IsAscii, encodes-IsAscii}
use Rattle.std.proofs.lemmas.Str.Ascii.{IsAscii-from_all}
use Rattle.std.proofs.lemmas.Bool.Decides.{nat_tests}
use Rattle.std.proofs.lemmas.List.Folds.{list_all-append}
use Rattle.std.proofs.lemmas.List.Elements.{All-cons, All-nil}
use Rattle.lfg_model.specs.declared.lexeme.Lexeme.{Lexeme}
use Rattle.lfg_model.specs.declared.lexeme.Lexeme.TheVariants.{Word}
use Rattle.lfg_model.specs.declared.token.Token.{Token}
use Rattle.lfg_model.specs.declared.token.TokenKind.{TokenKind}
use Rattle.lfg_model.specs.declared.token.TokenKind.TheVariants as kind
use Rattle.lfg_model.specs.Lists.{In, here, later}
use Rattle.lfg_model.specs.Pieces.{is_plain, piece_at, Piece, gap, token}
use Rattle.lfg_model.specs.Terms.{Name, same_name}
use Rattle.lfg_model.specs.Tokens.{Tokens, done, past_gap, past_token, IsNameChar, plain, quoted, IsName, one, more, joined, IsToken, name}
use Rattle.lfg_model.specs.Drafts as notation
use Rattle.lfg_model.specs.ThinText as thin
use Rattle.lfg_model.specs.ThinText.{is_thin_byte, Sign}
use Rattle.lfg_model.proofs.ListLaws.{In-nil}
use Rattle.lfg_model.proofs.LongestTokens.{longest_token}
use Rattle.lfg_model.proofs.PieceEnds.{piece_behind}
use Rattle.lfg_model.proofs.ThinTreeLaws.{same_from_test}

-- ---- bytes

both : (a b : Bool) → (a && b) ≡ true → (a ≡ true) × (b ≡ true)
both true b e = (refl, e)
both false b e = absurd (false≢true e)

both_back : (a b : Bool) → a ≡ true → b ≡ true → (a && b) ≡ true
both_back a b e f = ap (λ (x : Bool). x && b) e ∙ f

all_front : (p : ℕ → Bool) (xs ys : List ℕ) → list_all p (xs ++ ys) ≡ true → list_all p xs ≡ true
all_front p xs ys e = (both (list_all p xs) (list_all p ys) (sym (list_all-append p xs ys) ∙ e)).0

all_back : (p : ℕ → Bool) (xs ys : List ℕ) → list_all p (xs ++ ys) ≡ true → list_all p ys ≡ true
all_back p xs ys e = (both (list_all p xs) (list_all p ys) (sym (list_all-append p xs ys) ∙ e)).1

thin_small : (b : ℕ) → is_thin_byte b ≡ true → b < 128
thin_small b e = grind (arith, nat_tests)

thin_unquoted : is_thin_byte 96 ≡ true → ⊥
thin_unquoted e = cc

-- each byte of an ASCII text is below 128
small_all : (p : ℕ → Bool) → ((b : ℕ) → p b ≡ true → b < 128) → (bs : List ℕ) → list_all p bs ≡ true → All (λ b. b < 128) bs
small_all p f [] e = All-nil (λ b. b < 128)
small_all p f (b ∷ bs) e = let h = both (p b) (list_all p bs) e in All-cons (λ b. b < 128) b bs (f b h.0) (small_all p f bs h.1)

-- ---- names

-- a character of a thin name: ASCII, and no white space
abbrev is_solid : ℕ → Bool
is_solid c = nat_lt c 128 && not (is_whitespace c)

plain_solid : (c : ℕ) → is_thin_byte c ≡ true → is_plain c ≡ true → is_solid c ≡ true
plain_solid c e f = grind (arith, nat_tests)

char_solid : {w : List ℕ} {c : ℕ} → IsNameChar w c → list_all is_thin_byte w ≡ true → is_solid c ≡ true
char_solid (plain {c} e) t = plain_solid c (both (is_thin_byte c) true t).0 e
char_solid (quoted {c} e) t = absurd (thin_unquoted (both (is_thin_byte 96) (is_thin_byte c && true) t).0)

name_solid : {w t : List ℕ} → IsName w t → list_all is_thin_byte w ≡ true → list_all is_solid t ≡ true
name_solid (one {w} {c} u) e = both_back (is_solid c) true (char_solid u e) refl
name_solid (more {w} {v} {t} {c} u n) e = both_back (is_solid c) (list_all is_solid t) (char_solid u (all_front is_thin_byte w v e)) (name_solid n (all_back is_thin_byte w v e))
name_solid (joined {w} {v} {t} {c} u n) e =
    both_back (is_solid c) (list_all is_solid t) (char_solid u (all_front is_thin_byte w (45 ∷ v) e))
    (name_solid n (both (is_thin_byte 45) (list_all is_thin_byte v) (all_back is_thin_byte w (45 ∷ v) e)).1)

solid_parts : (c : ℕ) → is_solid c ≡ true → (c < 128) × (is_whitespace c ≡ false)
solid_parts c e = (grind (arith, nat_tests), grind (arith, nat_tests))

solid_spaceless : (cs : List ℕ) → list_all is_solid cs ≡ true → list_any is_whitespace cs ≡ false
solid_spaceless [] e = refl
solid_spaceless (c ∷ cs) e = let h = both (is_solid c) (list_all is_solid cs) e in ap (λ (b : Bool). b || list_any is_whitespace cs) (solid_parts c h.0).1 ∙ solid_spaceless cs h.1

solid_ascii : (cs : List ℕ) → list_all is_solid cs ≡ true → IsAscii cs
solid_ascii cs e = IsAscii-from_all cs (small_all is_solid (λ c t. (solid_parts c t).0) cs e)

-- the text has no white space
abbrev pub Spaceless : Name → Type 0
Spaceless text = list_any is_whitespace (chars text) ≡ false

solid_name : (t : List ℕ) → list_all is_solid t ≡ true → Spaceless (encode_utf8_all t)
solid_name t e = ap (λ (x : List ℕ). list_any is_whitespace x) (ap chars (encodes-IsAscii t (solid_ascii t e)) ∙ chars-IsAscii t (solid_ascii t e)) ∙ solid_spaceless t e

token_spaceless : {written text rest : List ℕ} → IsToken kind.Name written text rest → list_all is_thin_byte written ≡ true → Spaceless text
token_spaceless (name {w} {t} n) e = solid_name t (name_solid n e)

-- the lexeme is no name with white space
abbrev pub IsClean : Lexeme → Type 0
IsClean (Word text) = Spaceless text
IsClean _ = Unit {0}

-- ---- lexemes

same_some : {X : Type 0} (x y : X) → Some x ≡ Some y → x ≡ y
same_some x y e = cc

-- each of these signs is one of the notation
abbrev AreSigns : List Sign → Type 0
AreSigns [] = Unit {0}
AreSigns (s ∷ ss) = (notation.lexeme_in notation.signs s.text ≡ s.lexeme) × AreSigns ss

thin_signs : AreSigns thin.signs
thin_signs = (refl, (refl, (refl, (refl, (refl, (refl, (refl, (refl, (refl, (refl, (refl, tt)))))))))))

sign_lexeme : (ss : List Sign) (text : Name) (l : Lexeme) → AreSigns ss → thin.lexeme_in ss text ≡ Some l → notation.lexeme_in notation.signs text ≡ l
sign_lexeme [] text l a e = absurd (let no : ⊥ = cc in no)
sign_lexeme (s ∷ ss) text l a e = go (same_name text s.text) refl e (sign_lexeme ss text l a.1)
  where
    go : (b : Bool) → same_name text s.text ≡ b → cond b (Some s.lexeme) (thin.lexeme_in ss text) ≡ Some l → (thin.lexeme_in ss text ≡ Some l → notation.lexeme_in notation.signs text ≡ l) → notation.lexeme_in notation.signs text ≡ l
    go true t f r = ap (notation.lexeme_in notation.signs) (same_from_test text s.text t) ∙ a.0 ∙ same_some s.lexeme l f
    go false t f r = r f

name_lexeme : (b : Bool) (text : Name) (l : Lexeme) → cond b None (Some (Word text)) ≡ Some l → Word text ≡ l
name_lexeme true text l e = absurd (let no : ⊥ = cc in no)
name_lexeme false text l e = same_some (Word text) l e

one_lexeme : (k : TokenKind) (text : Name) (l : Lexeme) → thin.lexeme_of k text ≡ Some l → notation.lexeme_of k text ≡ l
unfolding notation.lexeme_of
one_lexeme kind.Name text l e = name_lexeme (list_any (λ b. b == 45) text) text l e
one_lexeme kind.Symbol text l e = sign_lexeme thin.signs text l thin_signs e

-- what is put before a list, where there are both
record Put {X : Type 0} (o : Option X) (p : Option (List X)) (xs : List X) : Type 0 where
  first : X
  rest : List X
  one : o ≡ Some first
  others : p ≡ Some rest
  are : xs ≡ first ∷ rest

put_parts : {X : Type 0} (o : Option X) (p : Option (List X)) (xs : List X) → thin.put o p ≡ Some xs → Put o p xs
put_parts None p xs e = absurd (let no : ⊥ = cc in no)
put_parts (Some x) None xs e = absurd (let no : ⊥ = cc in no)
put_parts (Some x) (Some rest) xs e = record { first = x; rest = rest; one = refl; others = refl; are = sym (same_some (x ∷ rest) xs e) }

-- the lexemes of a thin file are those of the notation
pub same_lexemes : (ts : List Token) (ls : List Lexeme) → thin.lexemes_of ts ≡ Some ls → notation.lexemes_of ts ≡ ls
same_lexemes [] ls e = same_some [] ls e
same_lexemes (t ∷ ts) ls e =
    let p = put_parts (thin.lexeme_of t.kind t.text) (thin.lexemes_of ts) ls e in
    let h : notation.lexeme_of t.kind t.text ≡ p.first = one_lexeme t.kind t.text p.first p.one in
    let k : notation.lexemes_of ts ≡ p.rest = same_lexemes ts p.rest p.others in
    (λ i. h i ∷ k i) ∙ sym p.are

-- no sign is a name with white space
abbrev HaveNoSpace : List Sign → Type 0
HaveNoSpace [] = Unit {0}
HaveNoSpace (s ∷ ss) = IsClean s.lexeme × HaveNoSpace ss

no_space : HaveNoSpace thin.signs
no_space = (tt, (tt, (tt, (tt, (tt, (tt, (tt, (tt, (tt, (tt, (tt, tt)))))))))))

sign_clean : (ss : List Sign) (text : Name) (l : Lexeme) → HaveNoSpace ss → thin.lexeme_in ss text ≡ Some l → IsClean l
sign_clean [] text l a e = absurd (let no : ⊥ = cc in no)
sign_clean (s ∷ ss) text l a e = go (same_name text s.text) e (sign_clean ss text l a.1)
  where
    go : (b : Bool) → cond b (Some s.lexeme) (thin.lexeme_in ss text) ≡ Some l → (thin.lexeme_in ss text ≡ Some l → IsClean l) → IsClean l
    go true f r = subst IsClean (same_some s.lexeme l f) a.0
    go false f r = r f

lexeme_clean : (k : TokenKind) (text : Name) (l : Lexeme) → (k ≡ kind.Name → Spaceless text) → thin.lexeme_of k text ≡ Some l → IsClean l
lexeme_clean kind.Name text l s e = subst IsClean (name_lexeme (list_any (λ b. b == 45) text) text l e) (s refl)
lexeme_clean kind.Symbol text l s e = sign_clean thin.signs text l no_space e

abbrev pub AreClean : List Lexeme → Type 0
AreClean ls = (l : Lexeme) → In l ls → IsClean l

clean_more : (l : Lexeme) (ls : List Lexeme) → IsClean l → AreClean ls → (m : Lexeme) → In m (l ∷ ls) → IsClean m
clean_more l ls c a m here = c
clean_more l ls c a m (later i) = a m i

front_spaceless : (k : TokenKind) (cs text rest : List ℕ) → list_all is_thin_byte cs ≡ true → piece_at cs ≡ Some (token k text, rest) → k ≡ kind.Name → Spaceless text
front_spaceless kind.Name cs text rest t e k =
    let l = longest_token kind.Name cs text rest e in
    token_spaceless l.token (all_front is_thin_byte l.written rest (ap (list_all is_thin_byte) (sym l.is) ∙ t))
front_spaceless kind.Symbol cs text rest t e k = absurd (let no : ⊥ = cc in no)

behind_thin : (cs ds : List ℕ) (p : Piece) → list_all is_thin_byte cs ≡ true → piece_at cs ≡ Some (p, ds) → list_all is_thin_byte ds ≡ true
behind_thin cs ds p t e = let b = piece_behind cs ds p e in all_back is_thin_byte (b.first ∷ b.front) ds (ap (list_all is_thin_byte) (sym b.is) ∙ t)

-- no white space stands in the names of a thin text
pub clean_lexemes : {at : ℕ} {cs : List ℕ} {ts : List Token} → Tokens at cs ts → list_all is_thin_byte cs ≡ true → (ls : List Lexeme) → thin.lexemes_of ts ≡ Some ls → AreClean ls
clean_lexemes done t ls e = λ l i. In-nil (subst (λ (ms : List Lexeme). In l ms) (sym (same_some [] ls e)) i)
clean_lexemes (past_gap {cs = cs} {ds = ds} e w r) t ls f = clean_lexemes r (behind_thin cs ds gap t e) ls f
clean_lexemes (past_token {cs = cs} {ds = ds} {text = text} {kind = k} {ts = ts} e w r) t ls f =
    let p = put_parts (thin.lexeme_of k text) (thin.lexemes_of ts) ls f in
    subst AreClean (sym p.are) (clean_more p.first p.rest (lexeme_clean k text p.first (front_spaceless k cs text ds t e) p.one)
    (clean_lexemes r (behind_thin cs ds (token k text) t e) p.rest p.others))

-- ---- files

thin_ascii : (bytes : List ℕ) → list_all is_thin_byte bytes ≡ true → IsAscii bytes
thin_ascii bytes e = IsAscii-from_all bytes (small_all is_thin_byte thin_small bytes e)

pub thin_utf8 : (bytes : List ℕ) → list_all is_thin_byte bytes ≡ true → IsUtf8 bytes
thin_utf8 bytes e = IsUtf8-from_ascii bytes (thin_ascii bytes e)

pub thin_chars : (bytes : List ℕ) → list_all is_thin_byte bytes ≡ true → list_all is_thin_byte (chars bytes) ≡ true
thin_chars bytes e = ap (list_all is_thin_byte) (chars-IsAscii bytes (thin_ascii bytes e)) ∙ e
