-- Texts read back: two names or edges with one text are one.
use Rattle.std.specs.Prelude.{◌≡◌, ℕ, ◌<◌, ◌≤◌, ◌^◌, Bool, true, false, ◌&&◌, ◌||◌, ◌==◌, if◌then◌else◌, List, [], ◌∷◌, ◌++◌, Option, Some, None, decimal, refl}
use Rattle.std.proofs.Common.{ap, sym, ◌∙◌, append_assoc, arith, cond}
use Rattle.std.proofs.lemmas.Bool.Decides.{nat_tests}
use Rattle.std.proofs.lemmas.Fmt.{decimal_injective, decimal_is_IsNumeral}
use Rattle.std.specs.Str.Parse.{AllDigits}
use Rattle.std.specs.Char.{digit_value}
use Rattle.lfg_terms.specs.declared.node.Edge.{Edge}
use Rattle.lfg_terms.specs.Texts.{hyphen, colon, backquote, is_plain, joins, is_bare, first, text_after, name_text, edge_text, IsPlaced}

-- a byte that may stand in a name's text by itself
abbrev pub is_inside : ℕ → Bool
is_inside b = is_plain b || (b == hyphen)

abbrev onto : ℕ → List ℕ × List ℕ → List ℕ × List ℕ
onto b r = (b ∷ r.0, r.1)

-- the name that a text begins with, and the rest; `taken` behind a backquote
abbrev pub read_name : Bool → List ℕ → List ℕ × List ℕ
read_name taken [] = ([], [])
read_name true (b ∷ bs) = onto b (read_name false bs)
read_name false (b ∷ bs) = if b == backquote then read_name true bs else (if is_inside b then onto b (read_name false bs) else ([], b ∷ bs))

-- the text ends, or goes on with a byte that no name has by itself
abbrev pub Stops : List ℕ → Type 0
Stops [] = Unit {0}
Stops (b ∷ bs) = (is_inside b ≡ false) × ((b == backquote) ≡ false)

bare_inside : (before : Option ℕ) (b : ℕ) (after : Option ℕ) → is_bare before b after ≡ true → is_inside b ≡ true
bare_inside before b after h = go (is_plain b) (b == hyphen) (joins before after) h
  where
    go : (p q r : Bool) → p || (q && r) ≡ true → p || q ≡ true
    go true q r h = refl
    go false true r h = refl
    go false false r h = h

inside_bare : (b : ℕ) → is_inside b ≡ true → (b == backquote) ≡ false
inside_bare b h = go (b == backquote) refl
  where
    go : (x : Bool) → (b == backquote) ≡ x → x ≡ false
    go false e = refl
    go true e =
        let q : b ≡ backquote = grind (arith, nat_tests) in
        let r : false ≡ true = sym (ap is_inside q) ∙ h in
        sym r

read_bare : (b : ℕ) (bs : List ℕ) → is_inside b ≡ true → read_name false (b ∷ bs) ≡ onto b (read_name false bs)
read_bare b bs h =
    ap (λ x. cond x (read_name true bs) (cond (is_inside b) (onto b (read_name false bs)) ([], b ∷ bs))) (inside_bare b h)
    ∙ ap (λ x. cond x (onto b (read_name false bs)) ([], b ∷ bs)) h

read_stop : (rest : List ℕ) → Stops rest → read_name false rest ≡ ([], rest)
read_stop [] s = refl
read_stop (b ∷ bs) s =
    ap (λ x. cond x (read_name true bs) (cond (is_inside b) (onto b (read_name false bs)) ([], b ∷ bs))) s.1
    ∙ ap (λ x. cond x (onto b (read_name false bs)) ([], b ∷ bs)) s.0

pub read_text : (before : Option ℕ) (bs rest : List ℕ) → Stops rest → read_name false (text_after before bs ++ rest) ≡ (bs, rest)
read_text before [] rest s = read_stop rest s
read_text before (b ∷ bs) rest s = go (is_bare before b (first bs)) refl (read_text (Some b) bs rest s)
  where
    go : (x : Bool) → is_bare before b (first bs) ≡ x → read_name false (text_after (Some b) bs ++ rest) ≡ (bs, rest) →
        read_name false ((cond x (b ∷ []) (backquote ∷ b ∷ []) ++ text_after (Some b) bs) ++ rest) ≡ (b ∷ bs, rest)
    go true e next = read_bare b (text_after (Some b) bs ++ rest) (bare_inside before b (first bs) e) ∙ ap (onto b) next
    go false e next = ap (onto b) next

-- a name's text and a stop behind it give back the name and what follows
pub name_text_splits : (v w : List ℕ) (r s : List ℕ) → Stops r → Stops s → name_text v ++ r ≡ name_text w ++ s → (v ≡ w) × (r ≡ s)
name_text_splits v w r s p q e =
    let k : (v, r) ≡ (w, s) = sym (read_text None v r p) ∙ ap (read_name false) e ∙ read_text None w s q in
    (ap (λ x. x.0) k, ap (λ x. x.1) k)

pub name_text_injective : (v w : List ℕ) → name_text v ≡ name_text w → v ≡ w
name_text_injective v w e = (name_text_splits v w [] [] tt tt (ap (λ t. t ++ []) e)).0

-- ---- numbers and edges

-- the text ends, or goes on with a byte that is no digit
abbrev pub StopsDigits : List ℕ → Type 0
StopsDigits [] = Unit {0}
StopsDigits (b ∷ bs) = 10 ≤ digit_value b

digits_split : (c d r s : List ℕ) → AllDigits 10 c → AllDigits 10 d → StopsDigits r → StopsDigits s → c ++ r ≡ d ++ s → (c ≡ d) × (r ≡ s)
digits_split [] [] r s p q h k e = (refl, e)
digits_split [] (y ∷ d) [] s p q h k e = cc
digits_split [] (y ∷ d) (x ∷ r) s p q h k e =
    let same : x ≡ y = cc in
    let no : ⊥ = omega (arith, ap digit_value same, h, q.0) in
    absurd no
digits_split (x ∷ c) [] r [] p q h k e = cc
digits_split (x ∷ c) [] r (y ∷ s) p q h k e =
    let same : x ≡ y = cc in
    let no : ⊥ = omega (arith, ap digit_value same, k, p.0) in
    absurd no
digits_split (x ∷ c) (y ∷ d) r s p q h k e =
    let first : x ≡ y = cc in
    let rest : c ++ r ≡ d ++ s = cc in
    let more = digits_split c d r s p.1 q.1 h k rest in
    (λ i. first i ∷ more.0 i, more.1)

-- a number's text and a stop behind it give back the number and what follows
pub decimal_splits : (m n : ℕ) (r s : List ℕ) → m < 2 ^ 64 → n < 2 ^ 64 → StopsDigits r → StopsDigits s → decimal m ++ r ≡ decimal n ++ s → (m ≡ n) × (r ≡ s)
decimal_splits m n r s a b h k e =
    let both = digits_split (decimal m) (decimal n) r s (decimal_is_IsNumeral m a).0.1 (decimal_is_IsNumeral n b).0.1 h k e in
    (decimal_injective m n a b both.0, both.1)

edge_text-append : (e : Edge) (r : List ℕ) → edge_text e ++ r ≡ name_text e.cat ++ (colon ∷ (decimal e.from ++ (colon ∷ (decimal e.to ++ r))))
edge_text-append e r =
    append_assoc (name_text e.cat ++ colon ∷ decimal e.from) (colon ∷ decimal e.to) r ∙ append_assoc (name_text e.cat) (colon ∷ decimal e.from) (colon ∷ decimal e.to ++ r)

-- an edge's text and a stop behind it give back the edge and what follows
pub edge_text_splits : (e f : Edge) (r s : List ℕ) → IsPlaced e → IsPlaced f → StopsDigits r → StopsDigits s → edge_text e ++ r ≡ edge_text f ++ s → (e ≡ f) × (r ≡ s)
edge_text_splits e f r s a b h k same =
    let name = name_text_splits e.cat f.cat (colon ∷ (decimal e.from ++ (colon ∷ (decimal e.to ++ r)))) (colon ∷ (decimal f.from ++ (colon ∷ (decimal f.to ++ s)))) (refl, refl) (refl, refl)
    (sym (edge_text-append e r) ∙ same ∙ edge_text-append f s) in
    let behind : decimal e.from ++ (colon ∷ (decimal e.to ++ r)) ≡ decimal f.from ++ (colon ∷ (decimal f.to ++ s)) = cc (name.1) in
    let from = decimal_splits e.from f.from (colon ∷ (decimal e.to ++ r)) (colon ∷ (decimal f.to ++ s)) (omega (arith, a.0)) (omega (arith, b.0)) (omega arith) (omega arith) behind in
    let last : decimal e.to ++ r ≡ decimal f.to ++ s = cc (from.1) in
    let to = decimal_splits e.to f.to r s (omega (arith, a.1)) (omega (arith, b.1)) h k last in
    (λ i. record { cat = name.0 i; from = from.0 i; to = to.0 i }, to.1)

pub edge_text_injective : (e f : Edge) → IsPlaced e → IsPlaced f → edge_text e ≡ edge_text f → e ≡ f
edge_text_injective e f a b same = (edge_text_splits e f [] [] a b tt tt (ap (λ t. t ++ []) same)).0
