-- Where a token begins, one is read, and a token that is read is the longest in front.
use Rattle.std.proofs.Common.{◌≡◌, ℕ, ◌≤◌, Bool, true, false, cond, not, ◌&&◌, ◌||◌, Option, Some, None, List, [], ◌∷◌, ◌++◌, ◌==◌, length, refl, ap, ◌∙◌, subst, arith, length-append}
use Rattle.std.specs.Prelude.{Contains, codes}
use Rattle.std.specs.Char.{is_whitespace}
use Rattle.std.specs.Str.{encode_utf8_all}
use Rattle.std.proofs.lemmas.Bool.{eqb-true}
use Rattle.std.proofs.lemmas.Bool.Decides.{nat_tests}
use Rattle.lfg_model.specs.declared.token.TokenKind.{TokenKind}
use Rattle.lfg_model.specs.declared.token.TokenKind.TheVariants.{Name, Symbol}
use Rattle.lfg_model.specs.Pieces.{Piece, gap, token, is_plain, quoted_at, char_at, name_on, comment_at, goes_on, symbols, or_else, read_as, symbol_at, named, name_from, symbol_from, piece_at}
use Rattle.lfg_model.specs.Tokens.{IsName, IsToken, name, symbol, equal_c, LongestToken, GivesToken}
use Rattle.lfg_model.proofs.NameRule.{name_begins, name_taken, name_few}
use Rattle.lfg_model.proofs.SymbolRule.{begins_apart, symbol_apart, symbol_taken, listed_read, sign_read}

same_some : {A : Type 0} {x y : A} → Some x ≡ Some y → x ≡ y
same_some e = cc

-- a front that leaves fewer is longer
longer_front : (cs xs us ys vs : List ℕ) → cs ≡ xs ++ us → cs ≡ ys ++ vs → length us ≤ length vs → length ys ≤ length xs
longer_front cs xs us ys vs e f h = omega (arith, ap length e, ap length f, length-append xs us, length-append ys vs)

-- no name begins where a symbol stands
apart_char : (s rest : List ℕ) → Contains symbols s → char_at (s ++ rest) ≡ None
apart_char s rest c = by_front s (symbol_apart s c)
  where
    by_tests : (p q : Bool) (c : ℕ) (cs : List ℕ) → (p || q) ≡ false → cond p (Some (c, cs)) (cond q (quoted_at cs) None) ≡ None
    by_tests true q c cs e = absurd (let no : ⊥ = cc in no)
    by_tests false true c cs e = absurd (let no : ⊥ = cc in no)
    by_tests false false c cs e = refl

    first_false : (a b : Bool) → (not a && b) ≡ true → a ≡ false
    first_false true b e = absurd (let no : ⊥ = cc in no)
    first_false false b e = refl

    by_front : (s : List ℕ) → begins_apart s ≡ true → char_at (s ++ rest) ≡ None
    by_front [] e = absurd (let no : ⊥ = cc in no)
    by_front (c ∷ cs) e = by_tests (is_plain c) (c == 96) c (cs ++ rest) (first_false (is_plain c || (c == 96)) (not (is_whitespace c || (c == 34))) e)

-- a name that is read is the longest token in front
name_longest : (cs ds : List ℕ) (c : ℕ) → char_at cs ≡ Some (c, ds) → LongestToken Name cs (encode_utf8_all (c ∷ (name_on ds).0)) (name_on ds).1
name_longest cs ds c e =
    let n = name_taken cs ds c e in
    record {
      written = n.front;
      is = n.is;
      token = name n.name;
      longest = λ other v t more w f. against n.front n.is other v t more w f;
    }
  where
    nothing_else : (v more : List ℕ) → char_at (v ++ more) ≡ None → cs ≡ v ++ more → ⊥
    nothing_else v more h f = let k : char_at cs ≡ None = ap char_at f ∙ h in let no : ⊥ = cc in no

    against : (front : List ℕ) → cs ≡ front ++ (name_on ds).1 → (other : TokenKind) (v t more : List ℕ) → IsToken other v t more → cs ≡ v ++ more → length v ≤ length front
    against front is Name v u more (name {w} {t} n) f = longer_front cs front (name_on ds).1 v more is f (name_few cs ds v t more c e n f)
    against front is Symbol v u more (symbol {s} k) f = absurd (nothing_else v more (apart_char v more k) f)
    against front is Symbol v u more (equal_c g) f = absurd (nothing_else (codes "=c") more refl f)

-- a symbol that is read is the longest token in front
symbol_longest : (cs s ds : List ℕ) → char_at cs ≡ None → symbol_at cs ≡ Some (s, ds) → LongestToken Symbol cs s ds
symbol_longest cs s ds n e =
    let k = symbol_taken cs s ds e in
    record {
      written = s;
      is = k.is;
      token = k.symbol;
      longest = λ other v t more w f. against k.listed k.sign other v t more w f;
    }
  where
    no_name : (v t more : List ℕ) → IsName v t → cs ≡ v ++ more → ⊥
    no_name v t more w f =
        let b = name_begins w more in
        let h : char_at cs ≡ Some (b.first, b.second) = ap char_at f ∙ b.is in
        let no : ⊥ = cc in
        no

    against : ((t rest : List ℕ) → Contains symbols t → cs ≡ t ++ rest → length t ≤ length s) → ((rest : List ℕ) → goes_on rest ≡ false → cs ≡ codes "=c" ++ rest → 2 ≤ length s)
        → (other : TokenKind) (v t more : List ℕ) → IsToken other v t more → cs ≡ v ++ more → length v ≤ length s
    against listed sign Name v u more (name {w} {t} x) f = absurd (no_name v t more x f)
    against listed sign Symbol v u more (symbol x) f = listed v more x f
    against listed sign Symbol v u more (equal_c g) f = sign more g f

-- a piece that is a token is the longest in front
abbrev IsLongest : List ℕ → Piece → List ℕ → Type 0
IsLongest cs gap rest = Unit {0}
IsLongest cs (token kind text) rest = LongestToken kind cs text rest

abbrev LongestPiece : List ℕ → Piece × List ℕ → Type 0
LongestPiece cs y = IsLongest cs y.0 y.1

-- what was read, where a token was
read_longest : (cs text rest : List ℕ) (kind : TokenKind) (o : Option (ℕ × List ℕ)) (p : Option (List ℕ × List ℕ)) → char_at cs ≡ o → symbol_at cs ≡ p
    → or_else (name_from o) (symbol_from p) ≡ Some (token kind text, rest) → LongestToken kind cs text rest
read_longest cs text rest kind (Some x) p h k e =
    let r : ◌≡◌ {A = Piece × List ℕ} (named x.0 (name_on x.1)) (token kind text, rest) = same_some e in
    subst (λ (y : Piece × List ℕ). LongestPiece cs y) r (name_longest cs x.1 x.0 h)
read_longest cs text rest kind None (Some x) h k e =
    let r : ◌≡◌ {A = Piece × List ℕ} (token Symbol x.0, x.1) (token kind text, rest) = same_some e in
    subst (λ (y : Piece × List ℕ). LongestPiece cs y) r (symbol_longest cs x.0 x.1 h k)
read_longest cs text rest kind None None h k e = absurd (let no : ⊥ = cc in no)

no_gap : {kind : TokenKind} {text rest ds : List ℕ} → ◌≡◌ {A = Option (Piece × List ℕ)} (Some (gap, ds)) (Some (token kind text, rest)) → ⊥
no_gap {kind} {text} e = let h : gap ≡ token kind text = ap (λ (x : Piece × List ℕ). x.0) (same_some e) in let no : ⊥ = cc in no

no_comment : {kind : TokenKind} {text rest : List ℕ} (o : Option (List ℕ)) → read_as gap o ≡ Some (token kind text, rest) → ⊥
no_comment None e = let no : ⊥ = cc in no
no_comment (Some ds) e = no_gap e

past_gaps : (kind : TokenKind) (text rest cs : List ℕ) (a b : Bool) (o : Option (List ℕ)) (p : Option (Piece × List ℕ)) → cond a (Some (gap, cs)) (cond b (read_as gap o) p) ≡ Some (token kind text, rest) → p ≡ Some (token kind text, rest)
past_gaps kind text rest cs true b o p e = absurd (no_gap e)
past_gaps kind text rest cs false true o p e = absurd (no_comment o e)
past_gaps kind text rest cs false false o p e = e

pub longest_token : (kind : TokenKind) (cs text rest : List ℕ) → piece_at cs ≡ Some (token kind text, rest) → LongestToken kind cs text rest
unfolding piece_at
longest_token kind [] text rest e = absurd (let no : ⊥ = cc in no)
longest_token kind (c ∷ cs) text rest e =
    read_longest (c ∷ cs) text rest kind (char_at (c ∷ cs)) (symbol_at (c ∷ cs)) refl refl
    (past_gaps kind text rest cs (is_whitespace c) (c == 34) (comment_at cs) (or_else (name_from (char_at (c ∷ cs))) (symbol_from (symbol_at (c ∷ cs)))) e)

-- a character that begins a name begins neither white space nor a comment
plain_apart : (c : ℕ) → is_plain c ≡ true → (is_whitespace c || (c == 34)) ≡ false
plain_apart c e = grind (arith, nat_tests)

-- neither white space nor a comment begins the characters
abbrev Apart : List ℕ → Type 0
Apart [] = ⊥
Apart (c ∷ cs) = (is_whitespace c || (c == 34)) ≡ false

name_apart : (cs : List ℕ) (x : ℕ × List ℕ) → char_at cs ≡ Some x → Apart cs
name_apart [] x e = let no : ⊥ = cc in no
name_apart (c ∷ cs) x e = by_tests (is_plain c) (c == 96) refl refl e
  where
    by_tests : (p q : Bool) → is_plain c ≡ p → (c == 96) ≡ q → cond p (Some (c, cs)) (cond q (quoted_at cs) None) ≡ Some x → (is_whitespace c || (c == 34)) ≡ false
    by_tests true q h k f = plain_apart c h
    by_tests false true h k f = ap (λ (n : ℕ). is_whitespace n || (n == 34)) (eqb-true c 96 k)
    by_tests false false h k f = absurd (let no : ⊥ = cc in no)

symbol_stands_apart : (s rest : List ℕ) → begins_apart s ≡ true → Apart (s ++ rest)
symbol_stands_apart [] rest e = absurd (let no : ⊥ = cc in no)
symbol_stands_apart (c ∷ cs) rest e = second_false (is_plain c || (c == 96)) (is_whitespace c || (c == 34)) e
  where
    second_false : (a b : Bool) → (not a && not b) ≡ true → b ≡ false
    second_false true b f = absurd (let no : ⊥ = cc in no)
    second_false false true f = absurd (let no : ⊥ = cc in no)
    second_false false false f = refl

-- a token is read where a name or a symbol is
either_given : (o : Option (ℕ × List ℕ)) (p : Option (List ℕ × List ℕ)) → (o ≡ None → p ≡ None → ⊥) → GivesToken (or_else (name_from o) (symbol_from p))
either_given (Some x) p h = tt
either_given None (Some x) h = tt
either_given None None h = h refl refl

past_given : (a b : Bool) (cs : List ℕ) (o : Option (List ℕ)) (p : Option (Piece × List ℕ)) → (a || b) ≡ false → GivesToken p → GivesToken (cond a (Some (gap, cs)) (cond b (read_as gap o) p))
past_given true b cs o p e g = let no : ⊥ = cc in absurd no
past_given false true cs o p e g = let no : ⊥ = cc in absurd no
past_given false false cs o p e g = g

given : (cs : List ℕ) → Apart cs → (char_at cs ≡ None → symbol_at cs ≡ None → ⊥) → GivesToken (piece_at cs)
unfolding piece_at
given [] a h = absurd a
given (c ∷ cs) a h = past_given (is_whitespace c) (c == 34) cs (comment_at cs) (or_else (name_from (char_at (c ∷ cs))) (symbol_from (symbol_at (c ∷ cs)))) a
    (either_given (char_at (c ∷ cs)) (symbol_at (c ∷ cs)) h)

pub token_begins : (kind : TokenKind) (written text rest : List ℕ) → IsToken kind written text rest → GivesToken (piece_at (written ++ rest))
token_begins Name written text rest (name {w} {t} n) =
    let b = name_begins n rest in
    given (written ++ rest) (name_apart (written ++ rest) (b.first, b.second) b.is) (λ no_char _. let no : ⊥ = cc (b.is, no_char) in no)
token_begins Symbol written text rest (symbol {s} c) = given (written ++ rest) (symbol_stands_apart written rest (symbol_apart written c)) (λ _ none. listed_read written rest c none)
token_begins Symbol written text rest (equal_c g) = given (codes "=c" ++ rest) refl (λ _ none. sign_read rest g none)
