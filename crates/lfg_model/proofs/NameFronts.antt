-- How a name goes on, character by character.
use Rattle.std.proofs.Common.{◌≡◌, ℕ, Bool, true, false, cond, Option, Some, None, List, [], ◌∷◌, refl, ap, arith}
use Rattle.std.proofs.Common.{◌==◌}
use Rattle.std.proofs.lemmas.Bool.{eqb-true}
use Rattle.lfg_model.specs.Pieces.{is_plain, char_at, quoted_at, joined_at, name_on, quoted_on, joined_on, joined_quoted_on, put}

same_some : {A : Type 0} {x y : A} → Some x ≡ Some y → x ≡ y
same_some e = cc

-- a name goes on as its characters say
quoted_then : (t : Bool) (q b d : ℕ) (cs ds : List ℕ) → cond {A = Option (ℕ × List ℕ)} t None (Some (b, cs)) ≡ Some (d, ds) → cond {A = List ℕ × List ℕ} t ([], q ∷ b ∷ cs) (put b (name_on cs)) ≡ put d (name_on ds)
quoted_then true q b d cs ds e = cc
quoted_then false q b d cs ds e = ap (λ (x : ℕ × List ℕ). put x.0 (name_on x.1)) (same_some e)

char_then : (p q : Bool) (c d : ℕ) (cs ds : List ℕ) (X : List ℕ × List ℕ) → cond p (Some (c, cs)) (cond q (quoted_at cs) None) ≡ Some (d, ds)
    → cond p (put c (name_on cs)) (cond q (quoted_on c cs) X) ≡ put d (name_on ds)
char_then true q c d cs ds X e = ap (λ (x : ℕ × List ℕ). put x.0 (name_on x.1)) (same_some e)
char_then false true c d [] ds X e = cc
char_then false true c d (b ∷ cs) ds X e = quoted_then (b == 10) c b d cs ds e
char_then false false c d cs ds X e = cc

pub name_then : (cs ds : List ℕ) (d : ℕ) → char_at cs ≡ Some (d, ds) → name_on cs ≡ put d (name_on ds)
name_then [] ds d e = cc
name_then (c ∷ cs) ds d e = char_then (is_plain c) (c == 96) c d cs ds _ e

-- and so behind a hyphen
quoted_joined : (t : Bool) (h q b d : ℕ) (cs ds : List ℕ) → cond {A = Option (ℕ × List ℕ)} t None (Some (b, cs)) ≡ Some (d, ds)
    → cond {A = List ℕ × List ℕ} t ([], h ∷ q ∷ b ∷ cs) (put 45 (put b (name_on cs))) ≡ put 45 (put d (name_on ds))
quoted_joined true h q b d cs ds e = cc
quoted_joined false h q b d cs ds e = ap (λ (x : ℕ × List ℕ). put 45 (put x.0 (name_on x.1))) (same_some e)

char_joined : (p q : Bool) (h c d : ℕ) (cs ds : List ℕ) (X : List ℕ × List ℕ) → cond p (Some (c, cs)) (cond q (quoted_at cs) None) ≡ Some (d, ds)
    → cond p (put 45 (put c (name_on cs))) (cond q (joined_quoted_on h c cs) X) ≡ put 45 (put d (name_on ds))
char_joined true q h c d cs ds X e = ap (λ (x : ℕ × List ℕ). put 45 (put x.0 (name_on x.1))) (same_some e)
char_joined false true h c d [] ds X e = cc
char_joined false true h c d (b ∷ cs) ds X e = quoted_joined (b == 10) h c b d cs ds e
char_joined false false h c d cs ds X e = cc

joined_from_char : (h : ℕ) (cs ds : List ℕ) (d : ℕ) → char_at cs ≡ Some (d, ds) → joined_on h cs ≡ put 45 (put d (name_on ds))
joined_from_char h [] ds d e = cc
joined_from_char h (c ∷ cs) ds d e = char_joined (is_plain c) (c == 96) h c d cs ds _ e

-- a hyphen is no name character
hyphen_then : (p q h : Bool) (c d : ℕ) (cs ds : List ℕ) (X : List ℕ × List ℕ) → cond {A = Option (ℕ × List ℕ)} p (Some (c, cs)) (cond q (quoted_at cs) None) ≡ None → cond h (char_at cs) None ≡ Some (d, ds)
    → (q ≡ true → h ≡ true → ⊥)
    → cond p (put c (name_on cs)) (cond q (quoted_on c cs) (cond h (joined_on c cs) X)) ≡ put 45 (put d (name_on ds))
hyphen_then true q h c d cs ds X n e b = cc
hyphen_then false true true c d cs ds X n e b = absurd (b refl refl)
hyphen_then false true false c d cs ds X n e b = cc
hyphen_then false false true c d cs ds X n e b = joined_from_char c cs ds d e
hyphen_then false false false c d cs ds X n e b = cc

both_codes : (c : ℕ) → (c == 96) ≡ true → (c == 45) ≡ true → ⊥
both_codes c e f =
    let a : c ≡ 96 = eqb-true c 96 e in
    let b : c ≡ 45 = eqb-true c 45 f in
    omega arith

pub joined_then : (cs ds : List ℕ) (d : ℕ) → char_at cs ≡ None → joined_at cs ≡ Some (d, ds) → name_on cs ≡ put 45 (put d (name_on ds))
joined_then [] ds d n e = cc
joined_then (c ∷ cs) ds d n e = hyphen_then (is_plain c) (c == 96) (c == 45) c d cs ds _ n e (both_codes c)

-- and ends where nothing goes on
quoted_ends : (t : Bool) (q b : ℕ) (cs : List ℕ) → cond {A = Option (ℕ × List ℕ)} t None (Some (b, cs)) ≡ None → cond {A = List ℕ × List ℕ} t ([], q ∷ b ∷ cs) (put b (name_on cs)) ≡ ([], q ∷ b ∷ cs)
quoted_ends true q b cs e = refl
quoted_ends false q b cs e = cc

quoted_end : (q : ℕ) (cs : List ℕ) → quoted_at cs ≡ None → quoted_on q cs ≡ ([], q ∷ cs)
quoted_end q [] e = refl
quoted_end q (b ∷ cs) e = quoted_ends (b == 10) q b cs e

quoted_joined_ends : (t : Bool) (h q b : ℕ) (cs : List ℕ) → cond {A = Option (ℕ × List ℕ)} t None (Some (b, cs)) ≡ None → cond {A = List ℕ × List ℕ} t ([], h ∷ q ∷ b ∷ cs) (put 45 (put b (name_on cs))) ≡ ([], h ∷ q ∷ b ∷ cs)
quoted_joined_ends true h q b cs e = refl
quoted_joined_ends false h q b cs e = cc

quoted_joined_end : (h q : ℕ) (cs : List ℕ) → quoted_at cs ≡ None → joined_quoted_on h q cs ≡ ([], h ∷ q ∷ cs)
quoted_joined_end h q [] e = refl
quoted_joined_end h q (b ∷ cs) e = quoted_joined_ends (b == 10) h q b cs e

joined_ends : (p q : Bool) (h c : ℕ) (cs : List ℕ) → cond {A = Option (ℕ × List ℕ)} p (Some (c, cs)) (cond q (quoted_at cs) None) ≡ None
    → cond p (put 45 (put c (name_on cs))) (cond q (joined_quoted_on h c cs) ([], h ∷ c ∷ cs)) ≡ ([], h ∷ c ∷ cs)
joined_ends true q h c cs e = cc
joined_ends false true h c cs e = quoted_joined_end h c cs e
joined_ends false false h c cs e = refl

joined_end : (h : ℕ) (cs : List ℕ) → char_at cs ≡ None → joined_on h cs ≡ ([], h ∷ cs)
joined_end h [] e = refl
joined_end h (c ∷ cs) e = joined_ends (is_plain c) (c == 96) h c cs e

name_ends : (p q h : Bool) (c : ℕ) (cs : List ℕ) → cond {A = Option (ℕ × List ℕ)} p (Some (c, cs)) (cond q (quoted_at cs) None) ≡ None → cond h (char_at cs) None ≡ None
    → cond p (put c (name_on cs)) (cond q (quoted_on c cs) (cond h (joined_on c cs) ([], c ∷ cs))) ≡ ([], c ∷ cs)
name_ends true q h c cs n e = cc
name_ends false true h c cs n e = quoted_end c cs n
name_ends false false true c cs n e = joined_end c cs e
name_ends false false false c cs n e = refl

pub name_end : (cs : List ℕ) → char_at cs ≡ None → joined_at cs ≡ None → name_on cs ≡ ([], cs)
name_end [] n e = refl
name_end (c ∷ cs) n e = name_ends (is_plain c) (c == 96) (c == 45) c cs n e
