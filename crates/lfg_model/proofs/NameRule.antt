-- What is read as a name is the longest name in front.
use Rattle.std.proofs.Common.{◌≡◌, ℕ, ◌≤◌, Bool, true, false, cond, Option, Some, None, List, [], ◌∷◌, ◌++◌, ◌==◌, length, refl, ap, sym, ◌∙◌, subst, arith, append_assoc, append-nil, length-append}
use Rattle.std.proofs.lemmas.Bool.{eqb-true}
use Rattle.lfg_model.specs.Pieces.{is_plain, quoted_at, char_at, name_on, quoted_on, joined_on, joined_quoted_on, put}
use Rattle.lfg_model.specs.Tokens.{IsNameChar, plain, quoted, IsName, one, more, joined}
use Rattle.lfg_model.proofs.NameFronts.{name_then, joined_then}
use Rattle.lfg_model.proofs.PieceEnds.{name_upto}

same_some : {A : Type 0} {x y : A} → Some x ≡ Some y → x ≡ y
same_some e = cc

-- a name character as it is written is read as such
char_written : {w : List ℕ} {c : ℕ} → IsNameChar w c → (rest : List ℕ) → char_at (w ++ rest) ≡ Some (c, rest)
char_written (plain {c} e) rest = ap (λ (b : Bool). cond b (some c rest) (cond (c == 96) (quoted_at rest) None)) e
  where
    some : ℕ → List ℕ → Option (ℕ × List ℕ)
    some c rest = Some (c, rest)
char_written (quoted {c} e) rest = ap (λ (b : Bool). cond b (nothing c) (some c rest)) e
  where
    nothing : ℕ → Option (ℕ × List ℕ)
    nothing c = None

    some : ℕ → List ℕ → Option (ℕ × List ℕ)
    some c rest = Some (c, rest)

-- a name in front begins with a name character, and what is read as a name leaves no more than is behind it
pub record BeginsName (cs rest : List ℕ) : Type 0 where
  pub first : ℕ
  pub second : List ℕ
  pub is : char_at cs ≡ Some (first, second)
  pub few : length (name_on second).1 ≤ length rest

begins_more : (w v rest : List ℕ) (c : ℕ) → IsNameChar w c → BeginsName (v ++ rest) rest → BeginsName ((w ++ v) ++ rest) rest
begins_more w v rest c u b = record {
  first = c;
  second = v ++ rest;
  is = ap char_at (append_assoc w v rest) ∙ char_written u (v ++ rest);
  few =
      let e : name_on (v ++ rest) ≡ put b.first (name_on b.second) = name_then (v ++ rest) b.second b.first b.is in
      let n = b.few in
      omega (arith, ap (λ (x : List ℕ × List ℕ). length x.1) e);
}

begins_joined : (w v rest : List ℕ) (c : ℕ) → IsNameChar w c → BeginsName (v ++ rest) rest → BeginsName ((w ++ 45 ∷ v) ++ rest) rest
begins_joined w v rest c u b = record {
  first = c;
  second = 45 ∷ v ++ rest;
  is = ap char_at (append_assoc w (45 ∷ v) rest) ∙ char_written u (45 ∷ v ++ rest);
  few =
      let e : name_on (45 ∷ v ++ rest) ≡ put 45 (put b.first (name_on b.second)) = joined_then (45 ∷ v ++ rest) b.second b.first refl b.is in
      let n = b.few in
      omega (arith, ap (λ (x : List ℕ × List ℕ). length x.1) e);
}

pub name_begins : {f t : List ℕ} → IsName f t → (rest : List ℕ) → BeginsName (f ++ rest) rest
name_begins (one {w} {c} u) rest = record {
  first = c;
  second = rest;
  is = char_written u rest;
  few = let h = name_upto rest in omega (arith, ap length h.is, length-append h.front (name_on rest).1);
}
name_begins (more {w} {v} {t} {c} u g) rest = begins_more w v rest c u (name_begins g rest)
name_begins (joined {w} {v} {t} {c} u g) rest = begins_joined w v rest c u (name_begins g rest)

-- how a name goes on behind one of its characters: as it is written, and its characters
data GoesOn : List ℕ → List ℕ → Type 0 where
  ends : GoesOn [] []
  next : {w v t : List ℕ} {c : ℕ} → IsNameChar w c → GoesOn v t → GoesOn (w ++ v) (c ∷ t)
  joins : {w v t : List ℕ} {c : ℕ} → IsNameChar w c → GoesOn v t → GoesOn (45 ∷ w ++ v) (45 ∷ c ∷ t)

name_whole : {w v t : List ℕ} {c : ℕ} → IsNameChar w c → GoesOn v t → IsName (w ++ v) (c ∷ t)
name_whole {w} {v} {t} {c} u ends = subst (λ (xs : List ℕ). IsName xs (c ∷ [])) (sym (append-nil w)) (one u)
name_whole u (next x g) = more u (name_whole x g)
name_whole u (joins x g) = joined u (name_whole x g)

-- what is taken from the characters as the rest of a name
record Takes (cs : List ℕ) (r : List ℕ × List ℕ) : Type 0 where
  front : List ℕ
  is : cs ≡ front ++ r.1
  goes : GoesOn front r.0

nothing_taken : (cs : List ℕ) → Takes cs ([], cs)
nothing_taken cs = record { front = []; is = refl; goes = ends }

pick : {A : Type 0} (P : A → Type 0) (b : Bool) (x y : A) → (b ≡ true → P x) → (b ≡ false → P y) → P (cond b x y)
pick P true x y p q = p refl
pick P false x y p q = q refl

plain_taken : (c : ℕ) (cs : List ℕ) (r : List ℕ × List ℕ) → is_plain c ≡ true → Takes cs r → Takes (c ∷ cs) (put c r)
plain_taken c cs r e g = record { front = c ∷ g.front; is = ap (λ (xs : List ℕ). c ∷ xs) g.is; goes = next (plain e) g.goes }

quoted_taken : (q c : ℕ) (cs : List ℕ) (r : List ℕ × List ℕ) → q ≡ 96 → (c == 10) ≡ false → Takes cs r → Takes (q ∷ c ∷ cs) (put c r)
quoted_taken q c cs r h e g = record {
  front = q ∷ c ∷ g.front;
  is = ap (λ (xs : List ℕ). q ∷ c ∷ xs) g.is;
  goes = subst (λ (n : ℕ). GoesOn (n ∷ c ∷ g.front) (c ∷ r.0)) (sym h) (next (quoted e) g.goes);
}

joined_taken : (h c : ℕ) (cs : List ℕ) (r : List ℕ × List ℕ) → h ≡ 45 → is_plain c ≡ true → Takes cs r → Takes (h ∷ c ∷ cs) (put 45 (put c r))
joined_taken h c cs r k e g = record {
  front = h ∷ c ∷ g.front;
  is = ap (λ (xs : List ℕ). h ∷ c ∷ xs) g.is;
  goes = subst (λ (n : ℕ). GoesOn (n ∷ c ∷ g.front) (45 ∷ c ∷ r.0)) (sym k) (joins (plain e) g.goes);
}

joined_quoted_taken : (h q c : ℕ) (cs : List ℕ) (r : List ℕ × List ℕ) → h ≡ 45 → q ≡ 96 → (c == 10) ≡ false → Takes cs r → Takes (h ∷ q ∷ c ∷ cs) (put 45 (put c r))
joined_quoted_taken h q c cs r k l e g = record {
  front = h ∷ q ∷ c ∷ g.front;
  is = ap (λ (xs : List ℕ). h ∷ q ∷ c ∷ xs) g.is;
  goes = subst (λ (n : ℕ). GoesOn (n ∷ q ∷ c ∷ g.front) (45 ∷ c ∷ r.0)) (sym k)
      (subst (λ (n : ℕ). GoesOn (45 ∷ n ∷ c ∷ g.front) (45 ∷ c ∷ r.0)) (sym l) (joins (quoted e) g.goes));
}

mutual
  name_takes : (cs : List ℕ) → Takes cs (name_on cs)
  name_takes [] = nothing_taken []
  name_takes (c ∷ cs) = pick (Takes (c ∷ cs)) (is_plain c) _ _ (λ e. plain_taken c cs (name_on cs) e (name_takes cs))
      (λ _. pick (Takes (c ∷ cs)) (c == 96) _ _ (λ e. quoted_takes c cs (eqb-true c 96 e))
      (λ _. pick (Takes (c ∷ cs)) (c == 45) _ _ (λ e. joined_takes c cs (eqb-true c 45 e)) (λ _. nothing_taken (c ∷ cs))))

  quoted_takes : (q : ℕ) (cs : List ℕ) → q ≡ 96 → Takes (q ∷ cs) (quoted_on q cs)
  quoted_takes q [] h = nothing_taken (q ∷ [])
  quoted_takes q (c ∷ cs) h = pick (Takes (q ∷ c ∷ cs)) (c == 10) _ _ (λ _. nothing_taken (q ∷ c ∷ cs)) (λ e. quoted_taken q c cs (name_on cs) h e (name_takes cs))

  joined_takes : (h : ℕ) (cs : List ℕ) → h ≡ 45 → Takes (h ∷ cs) (joined_on h cs)
  joined_takes h [] k = nothing_taken (h ∷ [])
  joined_takes h (c ∷ cs) k = pick (Takes (h ∷ c ∷ cs)) (is_plain c) _ _ (λ e. joined_taken h c cs (name_on cs) k e (name_takes cs))
      (λ _. pick (Takes (h ∷ c ∷ cs)) (c == 96) _ _ (λ e. joined_quoted_takes h c cs k (eqb-true c 96 e)) (λ _. nothing_taken (h ∷ c ∷ cs)))

  joined_quoted_takes : (h q : ℕ) (cs : List ℕ) → h ≡ 45 → q ≡ 96 → Takes (h ∷ q ∷ cs) (joined_quoted_on h q cs)
  joined_quoted_takes h q [] k l = nothing_taken (h ∷ q ∷ [])
  joined_quoted_takes h q (c ∷ cs) k l = pick (Takes (h ∷ q ∷ c ∷ cs)) (c == 10) _ _ (λ _. nothing_taken (h ∷ q ∷ c ∷ cs)) (λ e. joined_quoted_taken h q c cs (name_on cs) k l e (name_takes cs))

-- a name character that is read, as it is written
record CharTaken (cs ds : List ℕ) (c : ℕ) : Type 0 where
  front : List ℕ
  is : cs ≡ front ++ ds
  char : IsNameChar front c

-- what a read character says
abbrev TakesChar : List ℕ → Option (ℕ × List ℕ) → Type 0
TakesChar cs None = Unit {0}
TakesChar cs (Some x) = CharTaken cs x.1 x.0

quoted_char : (q : ℕ) (cs : List ℕ) → q ≡ 96 → TakesChar (q ∷ cs) (quoted_at cs)
quoted_char q [] h = tt
quoted_char q (c ∷ cs) h = pick (TakesChar (q ∷ c ∷ cs)) (c == 10) _ _ (λ _. tt)
    (λ e. record { front = q ∷ c ∷ []; is = refl; char = subst (λ (n : ℕ). IsNameChar (n ∷ c ∷ []) c) (sym h) (quoted e) })

char_takes : (cs : List ℕ) → TakesChar cs (char_at cs)
char_takes [] = tt
char_takes (c ∷ cs) = pick (TakesChar (c ∷ cs)) (is_plain c) _ _ (λ e. record { front = c ∷ []; is = refl; char = plain e })
    (λ _. pick (TakesChar (c ∷ cs)) (c == 96) _ _ (λ e. quoted_char c cs (eqb-true c 96 e)) (λ _. tt))

char_taken : (cs ds : List ℕ) (c : ℕ) → char_at cs ≡ Some (c, ds) → CharTaken cs ds c
char_taken cs ds c e = subst (TakesChar cs) e (char_takes cs)

-- what is read as a name, as it is written
pub record NameTaken (cs ds t : List ℕ) : Type 0 where
  pub front : List ℕ
  pub is : cs ≡ front ++ ds
  pub name : IsName front t

pub name_taken : (cs ds : List ℕ) (c : ℕ) → char_at cs ≡ Some (c, ds) → NameTaken cs (name_on ds).1 (c ∷ (name_on ds).0)
name_taken cs ds c e =
    let a = char_taken cs ds c e in
    let b = name_takes ds in
    record {
      front = a.front ++ b.front;
      is = a.is ∙ ap (λ (xs : List ℕ). a.front ++ xs) b.is ∙ sym (append_assoc a.front b.front (name_on ds).1);
      name = name_whole a.char b.goes;
    }

-- the characters that are left behind a name are no more than behind any other name in front
pub name_few : (cs ds other u rest : List ℕ) (c : ℕ) → char_at cs ≡ Some (c, ds) → IsName other u → cs ≡ other ++ rest → length (name_on ds).1 ≤ length rest
name_few cs ds other u rest c e n h =
    let b = name_begins n rest in
    let same : ◌≡◌ {A = ℕ × List ℕ} (b.first, b.second) (c, ds) = same_some (sym b.is ∙ ap char_at (sym h) ∙ e) in
    let k = b.few in
    omega (arith, ap (λ (x : ℕ × List ℕ). length (name_on x.1).1) same)
