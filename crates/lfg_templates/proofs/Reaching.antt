-- What a search over the graph reaches.
use Rattle.std.proofs.Common.{◌≡◌, ◌≢◌, ℕ, zero, suc, ◌+◌, ◌<◌, ◌≤◌, ◌⊎◌, inl, inr, Bool, true, false, List, [], ◌∷◌, ◌++◌, length, map, take, get_or, set, replicate, Vec, Global, refl, sym, ap, ◌∙◌, subst, arith}
use Rattle.std.proofs.lemmas.List.{take_more, take_all, get_or-set_same, get_or-set_other, length-append, length-set, length-map}
use Rattle.lfg_model.specs.Lists.{In, here, Extends}
use Rattle.lfg_model.proofs.ListLaws.{In-take_more, In-extended, In-push, In-push_cases, In-cons_cases, In-nil, In-at, Extends-refl, Extends-push, Extends-trans}
use Rattle.lfg_templates.specs.Graphs.{row_at, Walks, step, further, unmarked, Tied, Reached, Search}

-- ---- marks

pub unmarked_none : (n : ℕ) (bs : List Bool) → length bs ≡ n → ((j : ℕ) → get_or bs j false ≡ false) → unmarked bs ≡ n
unmarked_none n [] e h = e
unmarked_none n (true ∷ bs) e h = absurd (let f : true ≡ false = h 0 in let no : ⊥ = cc in no)
unmarked_none zero (false ∷ bs) e h = absurd (let no : ⊥ = omega (arith, e) in no)
unmarked_none (suc n) (false ∷ bs) e h = let r = unmarked_none n bs (omega (arith, e)) (λ j. h (suc j)) in omega (arith, r)

pub unmarked_set : (bs : List Bool) (j : ℕ) → j < length bs → get_or bs j false ≡ false → unmarked (set bs j true) + 1 ≡ unmarked bs
unmarked_set [] j l e = absurd (let no : ⊥ = omega arith in no)
unmarked_set (true ∷ bs) zero l e = absurd (let no : ⊥ = cc in no)
unmarked_set (false ∷ bs) zero l e = omega arith
unmarked_set (b ∷ bs) (suc j) l e = let r = unmarked_set bs j (omega arith) e in omega (arith, r)

true_within : (bs : List Bool) (j : ℕ) → get_or bs j false ≡ true → j < length bs
true_within [] j e = absurd (let no : ⊥ = cc in no)
true_within (b ∷ bs) zero e = omega arith
true_within (b ∷ bs) (suc j) e = let r = true_within bs j e in omega arith

pub tied_within : {n : ℕ} {marks : List Bool} {reached : List ℕ} → Tied n marks reached → (j : ℕ) → In j reached → j < n
tied_within {marks} t j i = let l = true_within marks j (t.back j i) in let w = t.wide in omega arith

pub tied_begin : (n : ℕ) (marks : List Bool) → length marks ≡ n → ((j : ℕ) → get_or marks j false ≡ false) → Tied n marks []
tied_begin n marks e h = record {
  wide = e;
  count = let u = unmarked_none n marks e h in omega arith;
  told = λ j f. absurd (let g = h j in let no : ⊥ = cc in no);
  back = λ j i. In-nil i;
}

same_or_other : (j k : ℕ) → (j ≡ k) ⊎ (j ≢ k)
same_or_other zero zero = inl refl
same_or_other zero (suc k) = inr (λ e. omega (arith, e))
same_or_other (suc j) zero = inr (λ e. omega (arith, e))
same_or_other (suc j) (suc k) = elim (same_or_other j k) [ inl e ↦ inl (ap suc e) | inr n ↦ inr (λ e. n (omega (arith, e))) ]

-- one more place
pub tied_more : (n : ℕ) (marks : List Bool) (reached : List ℕ) (p : ℕ) → Tied n marks reached → p < n → get_or marks p false ≡ false → Tied n (set marks p true) (reached ++ p ∷ [])
tied_more n marks reached p t l e =
    let within : p < length marks = let w = t.wide in omega arith in
    record {
      wide = length-set marks p true ∙ t.wide;
      count = let u = unmarked_set marks p within e in let a = length-append reached (p ∷ []) in let c = t.count in omega arith;
      told = λ j f. elim (same_or_other j p) [
        | inl s ↦ subst (λ (x : ℕ). In x (reached ++ p ∷ [])) (sym s) (In-push reached p)
        | inr o ↦ In-extended (Extends-push reached p) (t.told j (sym (get_or-set_other marks p j true false o) ∙ f))
      ];
      back = λ j i. elim (same_or_other j p) [
        | inl s ↦ subst (λ (x : ℕ). get_or (set marks p true) x false ≡ true) (sym s) (get_or-set_same marks p true false within)
        | inr o ↦ get_or-set_other marks p j true false o ∙ elim (In-push_cases reached p i) [ inl a ↦ t.back j a | inr s ↦ absurd (o s) ]
      ];
    }

-- ---- rows

pub reached_nothing : (n : ℕ) (old : List ℕ) → Reached n [] old old
reached_nothing n old = record { extends = Extends-refl old; added = λ j i. inl i; all = λ j i l. In-nil i }

pub reached_same : (n p : ℕ) (old : List ℕ) → (p < n → In p old) → Reached n (p ∷ []) old old
reached_same n p old h = record { extends = Extends-refl old; added = λ j i. inl i; all = λ j i l. elim (In-cons_cases i) [ inl e ↦ subst (λ (x : ℕ). In x old) (sym e) (h (subst (λ (x : ℕ). x < n) e l)) | inr z ↦ In-nil z ] }

pub reached_push : (n p : ℕ) (old : List ℕ) → Reached n (p ∷ []) old (old ++ p ∷ [])
reached_push n p old = record {
  extends = Extends-push old p;
  added = λ j i. elim (In-push_cases old p i) [ inl a ↦ inl a | inr e ↦ inr (subst (λ (x : ℕ). In x (p ∷ [])) (sym e) here) ];
  all = λ j i l. elim (In-cons_cases i) [ inl e ↦ subst (λ (x : ℕ). In x (old ++ p ∷ [])) (sym e) (In-push old p) | inr z ↦ In-nil z ];
}

-- one more place of a row, as a loop takes it
pub reached_more : (n : ℕ) (row : List ℕ) (i d p : ℕ) (old mid new : List ℕ) → i < length row → p ≡ get_or row i d → Reached n (take i row) old mid → Reached n (p ∷ []) mid new → Reached n (take (i + 1) row) old new
reached_more n row i d p old mid new l e a b =
    let whole : take (i + 1) row ≡ take i row ++ p ∷ [] = take_more row i d l ∙ ap (λ (x : ℕ). take i row ++ x ∷ []) (sym e) in
    subst (λ (r : List ℕ). Reached n r old new) (sym whole) (record {
      extends = Extends-trans a.extends b.extends;
      added = λ j k. elim (b.added j k) [
        | inl m ↦ elim (a.added j m) [ inl o ↦ inl o | inr r ↦ inr (In-extended (Extends-push (take i row) p) r) ]
        | inr s ↦ inr (elim (In-cons_cases s) [ inl f ↦ subst (λ (x : ℕ). In x (take i row ++ p ∷ [])) (sym f) (In-push (take i row) p) | inr z ↦ In-nil z ])
      ];
      all = λ j k m. elim (In-push_cases (take i row) p k) [ inl r ↦ In-extended b.extends (a.all j r m) | inr f ↦ b.all j (subst (λ (x : ℕ). In x (p ∷ [])) (sym f) here) m ];
    })

-- ---- the search

pub search_begun : (rows : List (List ℕ)) (start : ℕ) (marks : List Bool) (reached : List ℕ) → Tied (length rows) marks reached → Reached (length rows) (row_at rows start) [] reached → Search rows start marks reached []
search_begun rows start marks reached t r = record {
  tied = t;
  sound = λ j i. elim (r.added j i) [ inl z ↦ In-nil z | inr s ↦ step s ];
  begun = r.all;
  closed = λ j i. In-nil i;
}

take_extended : (xs ys : List ℕ) (i : ℕ) → i ≤ length xs → Extends xs ys → take i ys ≡ take i xs
take_extended xs ys i l e = ap (take i) e.is ∙ take_front xs e.added i l
  where
    take_front : (xs zs : List ℕ) (i : ℕ) → i ≤ length xs → take i (xs ++ zs) ≡ take i xs
    take_front xs zs zero l = refl
    take_front [] zs (suc i) l = absurd (let no : ⊥ = omega arith in no)
    take_front (x ∷ xs) zs (suc i) l = ap (λ (ws : List ℕ). x ∷ ws) (take_front xs zs i (omega arith))

pub search_more : (rows : List (List ℕ)) (start : ℕ) (marks after : List Bool) (reached new : List ℕ) (i p : ℕ) → i < length reached → p ≡ get_or reached i p → Search rows start marks reached (take i reached) → Tied (length rows) after new → Reached (length rows) (row_at rows p) reached new
    → Search rows start after new (take (i + 1) new)
search_more rows start marks after reached new i p l e s t r =
    let there : In p reached = subst (λ (x : ℕ). In x reached) (sym e) (In-at reached i p l) in
    record {
      tied = t;
      sound = λ j k. elim (r.added j k) [ inl o ↦ s.sound j o | inr q ↦ further (s.sound p there) q ];
      begun = λ j k m. In-extended r.extends (s.begun j k m);
      closed = λ j k. elim (In-take_more reached i p l (subst (λ (xs : List ℕ). In j xs) (take_extended reached new (i + 1) (omega arith) r.extends) k)) [
        | inl o ↦ λ x q m. In-extended r.extends (s.closed j o x q m)
        | inr f ↦ λ x q m. r.all x (subst (λ (y : ℕ). In x (row_at rows y)) (f ∙ sym e) q) m
      ];
    }

-- what has a follower is a place
has_row : (rows : List (List ℕ)) (j k : ℕ) → In k (row_at rows j) → j < length rows
has_row [] j k h = In-nil h
has_row (r ∷ rows) zero k h = omega arith
has_row (r ∷ rows) (suc j) k h = let l = has_row rows j k h in omega arith

search_finds : (rows : List (List ℕ)) (start : ℕ) (marks : List Bool) (reached : List ℕ) → Search rows start marks reached reached → {j : ℕ} → Walks rows start j → j < length rows → In j reached
search_finds rows start marks reached s (step i) l = s.begun _ i l
search_finds rows start marks reached s (further {j} w i) l = s.closed j (search_finds rows start marks reached s w (has_row rows j _ i)) _ i l

-- at the end
pub search_done : (rows : List (List ℕ)) (start : ℕ) (marks : List Bool) (reached : List ℕ) (i : ℕ) → length reached ≤ i → Search rows start marks reached (take i reached) → (j : ℕ) → j < length rows → Walks rows start j → get_or marks j false ≡ true
search_done rows start marks reached i l s j m w =
    let whole = subst (λ (xs : List ℕ). Search rows start marks reached xs) (take_all i reached l) s in
    s.tied.back j (search_finds rows start marks reached whole w m)

-- a search says of its marks how many they are
pub tied_own : {n : ℕ} {marks : List Bool} {reached : List ℕ} → Tied n marks reached → Tied (length marks) marks reached
tied_own {n} {marks} {reached} t = subst (λ (k : ℕ). Tied k marks reached) (sym t.wide) t

pub not_marked : (n j : ℕ) → get_or (replicate n false) j false ≡ false
not_marked zero j = refl
not_marked (suc n) zero = refl
not_marked (suc n) (suc j) = not_marked n j

-- no place is marked at first
pub tied_fresh : (n : ℕ) (marks : List Bool) (reached : List ℕ) → marks ≡ replicate n false → reached ≡ [] → Tied (length marks) marks reached
tied_fresh n marks reached e f =
    rw (e, f) (tied_begin (length (replicate n false)) (replicate n false) refl (not_marked n))

pub reached_at : (n m : ℕ) (row row' old old' new : List ℕ) → n ≡ m → row ≡ row' → old ≡ old' → Reached n row old new → Reached m row' old' new
reached_at n m row row' old old' new e f g h = subst (λ (k : ℕ). Reached k row' old' new) e (subst (λ (r : List ℕ). Reached n r old' new) f (subst (λ (o : List ℕ). Reached n row o new) g h))

pub tied_at : (n m : ℕ) (marks : List Bool) (reached : List ℕ) → n ≡ m → Tied n marks reached → Tied m marks reached
tied_at n m marks reached e t = subst (λ (k : ℕ). Tied k marks reached) e t

-- ---- rows that the program holds

pub rows_length : (g : List (Vec ℕ Global)) → length (map (λ r. r.items) g) ≡ length g
rows_length g = length-map g (λ (r : Vec ℕ Global). r.items)

pub row_items : (g : List (Vec ℕ Global)) (i : ℕ) (r : Vec ℕ Global) → i < length g → r ≡ get_or g i r → row_at (map (λ v. v.items) g) i ≡ r.items
row_items g i r l e = at g i r l ∙ ap (λ (v : Vec ℕ Global). v.items) (sym e)
  where
    at : (g : List (Vec ℕ Global)) (i : ℕ) (d : Vec ℕ Global) → i < length g → row_at (map (λ v. v.items) g) i ≡ (get_or g i d).items
    at [] i d l = absurd (let no : ⊥ = omega arith in no)
    at (v ∷ g) zero d l = refl
    at (v ∷ g) (suc i) d l = at g i d (omega arith)
