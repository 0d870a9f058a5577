-- What is read as a symbol is the longest symbol in front.
use Rattle.std.proofs.Common.{◌≡◌, ℕ, ◌≤◌, Bool, true, false, cond, not, ◌&&◌, ◌||◌, Option, Some, None, List, [], ◌∷◌, ◌++◌, ◌==◌, ◌⊎◌, inl, inr, length, refl, ap, sym, ◌∙◌, subst, arith}
use Rattle.std.specs.Prelude.{nat_le, Contains, codes}
use Rattle.std.specs.List.{list_all}
use Rattle.std.specs.Char.{is_whitespace}
use Rattle.std.proofs.lemmas.Bool.{eqb-true, eq-eqb, leb-true}
use Rattle.std.proofs.lemmas.List.Elements.{All-contains, Contains-append_cases, Contains-append_left, Contains-append_right, Contains-push, Contains-push_cases}
use Rattle.std.proofs.lemmas.List.Sums.{AllPass-from_list_all}
use Rattle.lfg_model.specs.declared.token.TokenKind.TheVariants.{Symbol}
use Rattle.lfg_model.specs.Tokens.{IsToken, symbol, equal_c}
use Rattle.lfg_model.specs.Pieces.{is_plain, behind, goes_on, symbols, or_else, read_as, symbol_in, alone, equal_c_at, symbol_at}

same_some : {A : Type 0} {x y : A} → Some x ≡ Some y → x ≡ y
same_some e = cc

same_code : (n : ℕ) → (n == n) ≡ true
same_code n = eq-eqb n n refl

-- what stands in front, and what is behind it
behind_split : (s cs ds : List ℕ) → behind s cs ≡ Some ds → cs ≡ s ++ ds
behind_split [] cs ds e = same_some e
behind_split (p ∷ ps) [] ds e = absurd (let no : ⊥ = cc in no)
behind_split (p ∷ ps) (c ∷ cs) ds e = same (p == c) refl e (behind_split ps cs ds)
  where
    same : (b : Bool) → (p == c) ≡ b → cond b (behind ps cs) None ≡ Some ds → (behind ps cs ≡ Some ds → cs ≡ ps ++ ds) → c ∷ cs ≡ p ∷ ps ++ ds
    same true h f more = let k : p ≡ c = eqb-true p c h in let r = more f in cc
    same false h f more = absurd (let no : ⊥ = cc in no)

behind_front : (s rest : List ℕ) → behind s (s ++ rest) ≡ Some rest
behind_front [] rest = refl
behind_front (p ∷ ps) rest = ap (λ (b : Bool). cond b (behind ps (ps ++ rest)) None) (same_code p) ∙ behind_front ps rest

-- two texts differ at a place that both have
abbrev differ : List ℕ → List ℕ → Bool
differ [] ys = false
differ (x ∷ xs) [] = false
differ (x ∷ xs) (y ∷ ys) = not (x == y) || differ xs ys

never_both : (xs ys us vs : List ℕ) → differ xs ys ≡ true → xs ++ us ≡ ys ++ vs → ⊥
never_both [] ys us vs d e = let no : ⊥ = cc in no
never_both (x ∷ xs) [] us vs d e = let no : ⊥ = cc in no
never_both (x ∷ xs) (y ∷ ys) us vs d e =
    let k : x ≡ y = cc in
    let rest : xs ++ us ≡ ys ++ vs = cc in
    never_both xs ys us vs (further (x == y) (differ xs ys) (ap (λ (n : ℕ). x == n) (sym k) ∙ same_code x) d) rest
  where
    further : (b d : Bool) → b ≡ true → (not b || d) ≡ true → d ≡ true
    further true d h e = e
    further false d h e = absurd (let no : ⊥ = cc in no)

-- where the first stands in front, the second is no longer or does not
abbrev fits : List ℕ → List ℕ → Bool
fits s t = nat_le (length t) (length s) || differ t s

no_longer : (s t us vs : List ℕ) → fits s t ≡ true → s ++ us ≡ t ++ vs → length t ≤ length s
no_longer s t us vs f e = by_test (nat_le (length t) (length s)) refl f
  where
    by_test : (b : Bool) → nat_le (length t) (length s) ≡ b → (b || differ t s) ≡ true → length t ≤ length s
    by_test true h g = leb-true (length t) (length s) h
    by_test false h g = absurd (never_both t s vs us g (sym e))

abbrev ordered : List (List ℕ) → Bool
ordered [] = true
ordered (s ∷ ss) = list_all (fits s) ss && ordered ss

both_true : (a b : Bool) → (a && b) ≡ true → (a ≡ true) × (b ≡ true)
both_true true b e = (refl, e)
both_true false b e = absurd (let no : ⊥ = cc in no)

test_of : (p : List ℕ → Bool) (ss : List (List ℕ)) (s : List ℕ) → list_all p ss ≡ true → Contains ss s → p s ≡ true
test_of p ss s h c = All-contains (λ (x : List ℕ). p x ≡ true) ss s (AllPass-from_list_all p ss h) c

head_or : (x : List ℕ) (ss : List (List ℕ)) (t : List ℕ) → Contains (x ∷ ss) t → (x ≡ t) ⊎ Contains ss t
head_or x ss t c = elim (Contains-append_cases (x ∷ []) ss t c) [ inl h ↦ elim (Contains-push_cases [] x t h) [ inl none ↦ absurd (omega (arith, none.1)) | inr e ↦ inl e ] | inr h ↦ inr h ]

-- the symbol of a list that is read: it stands in front, and no other of the list that does is longer
record Among (ss : List (List ℕ)) (cs s ds : List ℕ) : Type 0 where
  is : cs ≡ s ++ ds
  among : Contains ss s
  longest : (t rest : List ℕ) → Contains ss t → cs ≡ t ++ rest → length t ≤ length s

among_first : (x : List ℕ) (ss : List (List ℕ)) (cs ds : List ℕ) → list_all (fits x) ss ≡ true → behind x cs ≡ Some ds → Among (x ∷ ss) cs x ds
among_first x ss cs ds h e = record {
  is = behind_split x cs ds e;
  among = Contains-append_left (x ∷ []) ss x (Contains-push [] x);
  longest = λ t rest c f. elim (head_or x ss t c) [ inl k ↦ omega (arith, ap length k) | inr k ↦ no_longer x t ds rest (test_of (fits x) ss t h k) (sym (behind_split x cs ds e) ∙ f) ];
}

among_later : (x : List ℕ) (ss : List (List ℕ)) (cs s ds : List ℕ) → behind x cs ≡ None → Among ss cs s ds → Among (x ∷ ss) cs s ds
among_later x ss cs s ds e a = record {
  is = a.is;
  among = Contains-append_right (x ∷ []) ss s a.among;
  longest = λ t rest c f. elim (head_or x ss t c) [ inl k ↦ absurd (elsewhere t rest k f) | inr k ↦ a.longest t rest k f ];
}
  where
    elsewhere : (t rest : List ℕ) → x ≡ t → cs ≡ t ++ rest → ⊥
    elsewhere t rest k f =
        let g : behind x cs ≡ Some rest = ap (behind x) (f ∙ ap (λ (ys : List ℕ). ys ++ rest) (sym k)) ∙ behind_front x rest in
        let no : ⊥ = cc in
        no

symbol_among : (ss : List (List ℕ)) (cs s ds : List ℕ) → ordered ss ≡ true → symbol_in ss cs ≡ Some (s, ds) → Among ss cs s ds
symbol_among [] cs s ds h e = absurd (let no : ⊥ = cc in no)
symbol_among (x ∷ ss) cs s ds h e = by_first (behind x cs) refl e (symbol_among ss cs s ds)
  where
    tests : (list_all (fits x) ss ≡ true) × (ordered ss ≡ true)
    tests = both_true (list_all (fits x) ss) (ordered ss) h

    by_first : (o : Option (List ℕ)) → behind x cs ≡ o → or_else (read_as x o) (symbol_in ss cs) ≡ Some (s, ds)
        → (ordered ss ≡ true → symbol_in ss cs ≡ Some (s, ds) → Among ss cs s ds) → Among (x ∷ ss) cs s ds
    by_first None k f more = among_later x ss cs s ds k (more tests.1 f)
    by_first (Some es) k f more =
        let p : ◌≡◌ {A = List ℕ × List ℕ} (x, es) (s, ds) = same_some f in
        subst (λ (r : List ℕ × List ℕ). Among (x ∷ ss) cs r.0 r.1) p (among_first x ss cs es tests.0 k)

-- no symbol begins as a name, white space or a comment does
abbrev pub begins_apart : List ℕ → Bool
begins_apart [] = false
begins_apart (c ∷ cs) = not (is_plain c || (c == 96)) && not (is_whitespace c || (c == 34))

symbols_ordered : ordered symbols ≡ true
unfolding symbols
symbols_ordered = refl

symbols_fit : list_all (fits (codes "=c")) symbols ≡ true
unfolding symbols
symbols_fit = refl

symbols_apart : list_all begins_apart symbols ≡ true
unfolding symbols
symbols_apart = refl

pub symbol_apart : (s : List ℕ) → Contains symbols s → begins_apart s ≡ true
symbol_apart s c = test_of begins_apart symbols s symbols_apart c

-- the symbol that is read stands in front
pub record SymbolTaken (cs s ds : List ℕ) : Type 0 where
  pub is : cs ≡ s ++ ds
  pub symbol : IsToken Symbol s s ds
  pub listed : (t rest : List ℕ) → Contains symbols t → cs ≡ t ++ rest → length t ≤ length s
  pub sign : (rest : List ℕ) → goes_on rest ≡ false → cs ≡ codes "=c" ++ rest → 2 ≤ length s

equal_c_split : (cs ds : List ℕ) → equal_c_at cs ≡ Some ds → (cs ≡ codes "=c" ++ ds) × (goes_on ds ≡ false)
equal_c_split cs ds e = by_front (behind (codes "=c") cs) refl e
  where
    by_test : (es : List ℕ) (b : Bool) → goes_on es ≡ b → cond b None (Some es) ≡ Some ds → (es ≡ ds) × (goes_on ds ≡ false)
    by_test es true h f = absurd (let no : ⊥ = cc in no)
    by_test es false h f = let k : es ≡ ds = same_some f in (k, ap goes_on (sym k) ∙ h)

    by_front : (o : Option (List ℕ)) → behind (codes "=c") cs ≡ o → alone o ≡ Some ds → (cs ≡ codes "=c" ++ ds) × (goes_on ds ≡ false)
    by_front None h f = absurd (let no : ⊥ = cc in no)
    by_front (Some es) h f = let k = by_test es (goes_on es) refl f in (behind_split (codes "=c") cs es h ∙ ap (λ (xs : List ℕ). codes "=c" ++ xs) k.0, k.1)

equal_c_front : (rest : List ℕ) → goes_on rest ≡ false → equal_c_at (codes "=c" ++ rest) ≡ Some rest
equal_c_front rest h = ap (λ (b : Bool). cond b (nothing rest) (Some rest)) h
  where
    nothing : List ℕ → Option (List ℕ)
    nothing xs = None

equal_c_taken : (cs ds : List ℕ) → equal_c_at cs ≡ Some ds → SymbolTaken cs (codes "=c") ds
equal_c_taken cs ds e =
    let k = equal_c_split cs ds e in
    record {
      is = k.0;
      symbol = equal_c k.1;
      listed = λ t rest c f. no_longer (codes "=c") t ds rest (test_of (fits (codes "=c")) symbols t symbols_fit c) (sym k.0 ∙ f);
      sign = λ rest g f. omega arith;
    }

listed_taken : (cs s ds : List ℕ) → equal_c_at cs ≡ None → symbol_in symbols cs ≡ Some (s, ds) → SymbolTaken cs s ds
listed_taken cs s ds n e =
    let a = symbol_among symbols cs s ds symbols_ordered e in
    record {
      is = a.is;
      symbol = symbol a.among;
      listed = a.longest;
      sign = λ rest g f. absurd (let h : equal_c_at cs ≡ Some rest = ap equal_c_at f ∙ equal_c_front rest g in let no : ⊥ = cc in no);
    }

pub symbol_taken : (cs s ds : List ℕ) → symbol_at cs ≡ Some (s, ds) → SymbolTaken cs s ds
symbol_taken cs s ds e = by_sign (equal_c_at cs) refl e
  where
    by_sign : (o : Option (List ℕ)) → equal_c_at cs ≡ o → or_else (read_as (codes "=c") o) (symbol_in symbols cs) ≡ Some (s, ds) → SymbolTaken cs s ds
    by_sign None h f = listed_taken cs s ds h f
    by_sign (Some es) h f =
        let p : ◌≡◌ {A = List ℕ × List ℕ} (codes "=c", es) (s, ds) = same_some f in
        subst (λ (r : List ℕ × List ℕ). SymbolTaken cs r.0 r.1) p (equal_c_taken cs es h)

-- where a symbol stands in front, one is read
or_none : {A : Type 0} (o p : Option A) → or_else o p ≡ None → (o ≡ None) × (p ≡ None)
or_none None p e = (refl, e)
or_none (Some x) p e = absurd (let no : ⊥ = cc in no)

read_none : {A : Type 0} (a : A) (o : Option (List ℕ)) → read_as a o ≡ None → o ≡ None
read_none a None e = refl
read_none a (Some x) e = absurd (let no : ⊥ = cc in no)

in_none : (ss : List (List ℕ)) (s cs : List ℕ) → symbol_in ss cs ≡ None → Contains ss s → behind s cs ≡ None
in_none [] s cs e c = absurd (omega (arith, c.1))
in_none (x ∷ ss) s cs e c =
    let p = or_none (read_as x (behind x cs)) (symbol_in ss cs) e in
    elim (head_or x ss s c) [ inl k ↦ ap (λ (y : List ℕ). behind y cs) (sym k) ∙ read_none x (behind x cs) p.0 | inr k ↦ in_none ss s cs p.1 k ]

pub listed_read : (s rest : List ℕ) → Contains symbols s → symbol_at (s ++ rest) ≡ None → ⊥
listed_read s rest c e =
    let p = or_none (read_as (codes "=c") (equal_c_at (s ++ rest))) (symbol_in symbols (s ++ rest)) e in
    let h : behind s (s ++ rest) ≡ None = in_none symbols s (s ++ rest) p.1 c in
    let k : behind s (s ++ rest) ≡ Some rest = behind_front s rest in
    let no : ⊥ = cc in
    no

pub sign_read : (rest : List ℕ) → goes_on rest ≡ false → symbol_at (codes "=c" ++ rest) ≡ None → ⊥
sign_read rest g e =
    let p = or_none (read_as (codes "=c") (equal_c_at (codes "=c" ++ rest))) (symbol_in symbols (codes "=c" ++ rest)) e in
    let h : equal_c_at (codes "=c" ++ rest) ≡ None = read_none (codes "=c") (equal_c_at (codes "=c" ++ rest)) p.0 in
    let k : equal_c_at (codes "=c" ++ rest) ≡ Some rest = equal_c_front rest g in
    let no : ⊥ = cc in
    no
