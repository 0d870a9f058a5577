-- How a row of things is read, one after another.
use Rattle.std.proofs.Common.{◌≡◌, Bool, true, false, Option, Some, None, List, [], ◌∷◌, ◌++◌, map, refl, ap, sym, ◌∙◌, subst, append-nil, append_assoc}
use Rattle.std.proofs.lemmas.Bool.{false≢true}
use Rattle.lfg_model.specs.declared.lexeme.Lexeme.{Lexeme}
use Rattle.lfg_model.specs.ThinText.{Row, done, more}

module _ {X : Type 0} (is_end : List Lexeme → Bool) (Stands : List Lexeme → X → List Lexeme → Type 0) where
  -- Of all lexemes, xs were read and the rest is left: what is a row of the rest makes one of all with
  -- xs in front, and where all are a row, so is the rest.
  pub record Reading (all : List Lexeme) (xs : List X) (rest : List Lexeme) : Type 0 where
    pub on : (ys : List X) → Row is_end Stands rest ys → Row is_end Stands all (xs ++ ys)
    pub back : (zs : List X) → Row is_end Stands all zs → (ys : List X) × Row is_end Stands rest ys

  pub begun : (all : List Lexeme) → Reading all [] all
  begun all = record { on = λ ys r. r; back = λ zs r. (zs, r) }

  behind : (rest next : List Lexeme) (zs : List X) → is_end rest ≡ false → ((y : X) (b : List Lexeme) → Stands rest y b → b ≡ next) → Row is_end Stands rest zs
      → (ys : List X) × Row is_end Stands next ys
  behind rest next [] goes one (done e) = absurd (false≢true (sym goes ∙ e))
  behind rest next (z ∷ zs) goes one (more {rest = b} e s r) = (zs, subst (λ (us : List Lexeme). Row is_end Stands us zs) (one z b s) r)

  pub turned : (all rest next : List Lexeme) (xs ys : List X) (x : X) → Reading all xs rest → is_end rest ≡ false → Stands rest x next
      → ((y : X) (b : List Lexeme) → Stands rest y b → b ≡ next) → ys ≡ xs ++ x ∷ [] → Reading all ys next
  turned all rest next xs ys x reading goes stands one grew = record {
    on = λ us r. subst (λ (vs : List X). Row is_end Stands all vs) (sym (ap (λ (vs : List X). vs ++ us) grew ∙ append_assoc xs (x ∷ []) us)) (reading.on (x ∷ us) (more goes stands r));
    back = λ zs r. let b = reading.back zs r in behind rest next b.0 goes one b.1;
  }

  pub ended : (all rest : List Lexeme) (xs : List X) → Reading all xs rest → is_end rest ≡ true → Row is_end Stands all xs
  ended all rest xs reading e = subst (λ (vs : List X). Row is_end Stands all vs) (append-nil xs) (reading.on [] (done e))

  stuck : (rest : List Lexeme) (zs : List X) → is_end rest ≡ false → ((y : X) (b : List Lexeme) → Stands rest y b → ⊥) → Row is_end Stands rest zs → ⊥
  stuck rest [] goes never (done e) = false≢true (sym goes ∙ e)
  stuck rest (z ∷ zs) goes never (more {rest = b} e s r) = never z b s

  pub refused : (all rest : List Lexeme) (xs : List X) → Reading all xs rest → is_end rest ≡ false → ((y : X) (b : List Lexeme) → Stands rest y b → ⊥) → (zs : List X) → Row is_end Stands all zs → ⊥
  refused all rest xs reading goes never zs r = let b = reading.back zs r in stuck rest b.0 goes never b.1

-- a row has one reading where what stands in front is one thing
pub one_row : {X : Type 0} (is_end : List Lexeme → Bool) (Stands : List Lexeme → X → List Lexeme → Type 0)
    → ((ls : List Lexeme) (x y : X) (b c : List Lexeme) → Stands ls x b → Stands ls y c → (x ≡ y) × (b ≡ c))
    → (ls : List Lexeme) (xs ys : List X) → Row is_end Stands ls xs → Row is_end Stands ls ys → xs ≡ ys
one_row is_end Stands one ls [] [] (done e) (done f) = refl
one_row is_end Stands one ls [] (y ∷ ys) (done e) (more f s r) = absurd (false≢true (sym f ∙ e))
one_row is_end Stands one ls (x ∷ xs) [] (more e s r) (done f) = absurd (false≢true (sym e ∙ f))
one_row is_end Stands one ls (x ∷ xs) (y ∷ ys) (more {rest = b} e s r) (more {rest = c} f t q) =
    let o = one ls x y b c s t in
    let p : xs ≡ ys = one_row is_end Stands one b xs ys r (subst (λ (us : List Lexeme). Row is_end Stands us ys) (sym o.1) q) in
    let h : x ≡ y = o.0 in
    cc

-- ---- things that a function reads in front

pub same_some : {X : Type 0} (x y : X) → Some x ≡ Some y → x ≡ y
same_some x y e = cc

pub read_once : {X : Type 0} (o : Option (X × List Lexeme)) (x y : X) (b c : List Lexeme) → o ≡ Some (x, b) → o ≡ Some (y, c) → (x ≡ y) × (b ≡ c)
read_once {X} o x y b c e f =
    let p : ◌≡◌ {A = X × List Lexeme} (x, b) (y, c) = same_some _ _ (sym e ∙ f) in
    (ap (λ (r : X × List Lexeme). r.0) p, ap (λ (r : X × List Lexeme). r.1) p)

pub unread : {X : Type 0} (o : Option (X × List Lexeme)) → o ≡ None → (y : X) (b : List Lexeme) → o ≡ Some (y, b) → ⊥
unread {X} o e y b f = none_some (y, b) (sym e ∙ f)
  where
    none_some : (z : X × List Lexeme) → ◌≡◌ {A = Option (X × List Lexeme)} None (Some z) → ⊥
    none_some z s = cc

-- one more thing, as it is seen
pub pushed : {X Y : Type 0} (view : X → Y) (xs ys : List X) (x : X) → ys ≡ xs ++ x ∷ [] → map view ys ≡ map view xs ++ view x ∷ []
pushed view xs ys x e = ap (map view) e ∙ map_push view xs x
  where
    map_push : {X Y : Type 0} (view : X → Y) (xs : List X) (x : X) → map view (xs ++ x ∷ []) ≡ map view xs ++ view x ∷ []
    map_push view [] x = refl
    map_push view (y ∷ ys) x = ap (λ (zs : List _). view y ∷ zs) (map_push view ys x)

module _ {X Y : Type 0} (is_end : List Lexeme → Bool) (at : List Lexeme → Option (Y × List Lexeme)) (view : X → Y) where
  abbrev pub ReadBy : List Lexeme → Y → List Lexeme → Type 0
  ReadBy ls y rest = at ls ≡ Some (y, rest)

  -- one more thing was read
  pub stepped : (all rest next : List Lexeme) (xs ys : List X) (x : X) → Reading is_end ReadBy all (map view xs) rest → is_end rest ≡ false → at rest ≡ Some (view x, next) → ys ≡ xs ++ x ∷ []
      → Reading is_end ReadBy all (map view ys) next
  stepped all rest next xs ys x reading goes e grew =
      turned is_end ReadBy all rest next (map view xs) (map view ys) (view x) reading goes e (λ y b s. (read_once (at rest) y (view x) b next s e).1) (pushed view xs ys x grew)

  -- nothing was read
  pub halted : (all rest : List Lexeme) (xs : List X) → Reading is_end ReadBy all (map view xs) rest → is_end rest ≡ false → at rest ≡ None → (zs : List Y) → Row is_end ReadBy all zs → ⊥
  halted all rest xs reading goes e = refused is_end ReadBy all rest (map view xs) reading goes (unread (at rest) e)

-- a row of nothing has nothing in it
pub empty_row : {X : Type 0} (is_end : List Lexeme → Bool) (Stands : List Lexeme → X → List Lexeme → Type 0) (ls : List Lexeme) (xs : List X) → Row is_end Stands ls [] → Row is_end Stands ls xs → xs ≡ []
empty_row is_end Stands ls [] (done e) r = refl
empty_row is_end Stands ls (x ∷ xs) (done e) (more f s r) = absurd (false≢true (sym f ∙ e))

-- at first nothing was read
pub started : {X Y : Type 0} (is_end : List Lexeme → Bool) (Stands : List Lexeme → Y → List Lexeme → Type 0) (view : X → Y) (all : List Lexeme) (xs : List X) → xs ≡ [] → Reading is_end Stands all (map view xs) all
started is_end Stands view all xs e = subst (λ (ys : List _). Reading is_end Stands all (map view ys) all) (sym e) (begun is_end Stands all)
