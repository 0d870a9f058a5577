-- The law on growing rounds: a round over the passages holds one place more, or changes nothing, and
-- then each passage is met.
use Rattle.std.proofs.Common.{◌≡◌, ◌≢◌, ℕ, ◌+◌, ◌<◌, ◌≤◌, Bool, true, false, ◌&&◌, ◌||◌, ◌⊎◌, inl, inr, cond, List, [], ◌∷◌, length, get_or, slice_set, sym, refl, ◌∙◌, ap, subst, arith}
use Rattle.std.specs.Prelude.{sum_by}
use Rattle.std.proofs.lemmas.List.{length-set, set-get_or, get_or-set_same, get_or-set_other}
use Rattle.std.proofs.lemmas.List.Sums.{sum_by-set, sum_by-le}
use Rattle.lfg_model.specs.Lists.{In, here, later}
use Rattle.lfg_model.proofs.ListLaws.{In-nil, In-cons_cases}
use Rattle.lfg_instant.specs.declared.flow.Passage.{Passage}
use Rattle.lfg_instant.specs.Flow.{held, after, after_all}

-- how many places are held
abbrev one : Bool → ℕ
one b = cond b 1 0

abbrev pub count : List Bool → ℕ
count bs = sum_by one bs

pub count-le : (bs : List Bool) → count bs ≤ length bs
count-le bs = omega (arith, sum_by-le one 1 bs (λ k d h. at_most (get_or bs k d)))
  where
    at_most : (b : Bool) → one b ≤ 1
    at_most true = omega arith
    at_most false = omega arith

-- the passage takes an assignment along
abbrev pub opens : List Bool → Passage → List Bool → Bool
opens qs p bs = held bs p.from && held qs p.pick

-- the passage's end has what comes along it
abbrev pub IsMet : List Bool → Passage → List Bool → Type 0
IsMet qs p bs = opens qs p bs ≡ true → held bs p.to ≡ true

pub record AreMet (qs : List Bool) (ps : List Passage) (bs : List Bool) : Type 0 where
  pub each : (p : Passage) → In p ps → IsMet qs p bs

-- the passages end at places of the table
pub record EndWithin (n : ℕ) (ps : List Passage) : Type 0 where
  pub each : (p : Passage) → In p ps → p.to < n

ends_tail : {n : ℕ} {p : Passage} {ps : List Passage} → EndWithin n (p ∷ ps) → EndWithin n ps
ends_tail w = record { each = λ p h. w.each p (later h) }

met_cons : {qs bs : List Bool} {p : Passage} {ps : List Passage} → IsMet qs p bs → AreMet qs ps bs → AreMet qs (p ∷ ps) bs
met_cons {qs} {bs} {p} {ps} one rest = record {
  each = λ q h. elim (In-cons_cases h) [
    | inl e ↦ (let P : Passage → Type 0 = λ x. IsMet qs x bs in subst P (sym e) one)
    | inr i ↦ rest.each q i
  ];
}

pub length-after : (qs : List Bool) (p : Passage) (bs : List Bool) → length (after qs p bs) ≡ length bs
length-after qs p bs = length-set bs p.to (held bs p.to || opens qs p bs)

pub length-after_all : (qs : List Bool) (ps : List Passage) (bs : List Bool) → length (after_all qs ps bs) ≡ length bs
length-after_all qs [] bs = refl
length-after_all qs (p ∷ ps) bs = length-after_all qs ps (after qs p bs) ∙ length-after qs p bs

-- a passage that is met changes nothing
still : (qs : List Bool) (p : Passage) (bs : List Bool) → (h f : Bool) → held bs p.to ≡ h → opens qs p bs ≡ f → (f ≡ true → h ≡ true) → after qs p bs ≡ bs
still qs p bs true f eh ef met = ap (λ v. slice_set bs p.to v) (ap (λ b. b || opens qs p bs) eh ∙ sym eh) ∙ set-get_or bs p.to false
still qs p bs false false eh ef met = ap (λ v. slice_set bs p.to v) (ap (λ b. b || opens qs p bs) eh ∙ ef ∙ sym eh) ∙ set-get_or bs p.to false
still qs p bs false true eh ef met = let never : false ≡ true = met refl in absurd (cc)

-- one passage changes nothing and is met, or one more place is held
step : (qs : List Bool) (p : Passage) (bs : List Bool) → p.to < length bs → ((after qs p bs ≡ bs) × IsMet qs p bs) ⊎ (count (after qs p bs) ≡ count bs + 1)
step qs p bs within = by_cases (held bs p.to) (opens qs p bs) refl refl
  where
    by_cases : (h f : Bool) → held bs p.to ≡ h → opens qs p bs ≡ f → ((after qs p bs ≡ bs) × IsMet qs p bs) ⊎ (count (after qs p bs) ≡ count bs + 1)
    by_cases true f eh ef = inl (still qs p bs true f eh ef (λ _. refl), λ _. eh)
    by_cases false false eh ef = inl (still qs p bs false false eh ef (λ e. e), λ t. (let never : false ≡ true = sym ef ∙ t in absurd (cc)))
    by_cases false true eh ef =
        let v : (held bs p.to || opens qs p bs) ≡ true = ap (λ b. b || opens qs p bs) eh ∙ ef in
        let more = sum_by-set one bs p.to (held bs p.to || opens qs p bs) false within in
        let one_new : one (held bs p.to || opens qs p bs) ≡ 1 = ap one v in
        let one_old : one (held bs p.to) ≡ 0 = ap one eh in
        inr (omega arith)

-- a round changes nothing and all passages are met, or more places are held
pub round : (n : ℕ) (qs : List Bool) (ps : List Passage) (bs : List Bool) → length bs ≡ n → EndWithin n ps → ((after_all qs ps bs ≡ bs) × AreMet qs ps bs) ⊎ (count bs + 1 ≤ count (after_all qs ps bs))
round n qs [] bs l w = inl (refl, record { each = λ p h. In-nil h })
round n qs (p ∷ ps) bs l w = joined (step qs p bs (let e = w.each p here in omega arith)) (round n qs ps (after qs p bs) (length-after qs p bs ∙ l) (ends_tail w))
  where
    joined : ((after qs p bs ≡ bs) × IsMet qs p bs) ⊎ (count (after qs p bs) ≡ count bs + 1)
        → ((after_all qs ps (after qs p bs) ≡ after qs p bs) × AreMet qs ps (after qs p bs)) ⊎ (count (after qs p bs) + 1 ≤ count (after_all qs ps (after qs p bs)))
        → ((after_all qs ps (after qs p bs) ≡ bs) × AreMet qs (p ∷ ps) bs) ⊎ (count bs + 1 ≤ count (after_all qs ps (after qs p bs)))
    joined (inl (e, met)) (inl (f, all)) = inl (f ∙ e, met_cons met (let P : List Bool → Type 0 = λ v. AreMet qs ps v in subst P e all))
    joined (inl (e, met)) (inr more) = let k : count (after qs p bs) ≡ count bs = ap count e in inr (omega arith)
    joined (inr more) (inl (f, all)) = let k : count (after_all qs ps (after qs p bs)) ≡ count (after qs p bs) = ap count f in inr (omega arith)
    joined (inr more) (inr again) = inr (omega arith)

nat_cases : (m n : ℕ) → (m ≡ n) ⊎ (m ≢ n)
nat_cases m n = grind arith

-- what is held stays
grows : (qs : List Bool) (p : Passage) (bs : List Bool) (i : ℕ) → p.to < length bs → held bs i ≡ true → held (after qs p bs) i ≡ true
grows qs p bs i within h = elim (nat_cases i p.to) [
  | inl same ↦ let P : ℕ → Type 0 = λ j. held (after qs p bs) j ≡ true in
      subst P (sym same) (get_or-set_same bs p.to _ false within ∙ ap (λ b. b || opens qs p bs) (ap (λ j. held bs j) (sym same) ∙ h))
  | inr other ↦ get_or-set_other bs p.to i _ false other ∙ h
]

grows_all : (n : ℕ) (qs : List Bool) (ps : List Passage) (bs : List Bool) (i : ℕ) → length bs ≡ n → EndWithin n ps → held bs i ≡ true → held (after_all qs ps bs) i ≡ true
grows_all n qs [] bs i l w h = h
grows_all n qs (p ∷ ps) bs i l w h = grows_all n qs ps (after qs p bs) i (length-after qs p bs ∙ l) (ends_tail w) (grows qs p bs i (let e = w.each p here in omega arith) h)

-- a closed table stays
met_stay : (qs : List Bool) (ps : List Passage) (bs : List Bool) → AreMet qs ps bs → after_all qs ps bs ≡ bs
met_stay qs [] bs met = refl
met_stay qs (p ∷ ps) bs met =
    let e : after qs p bs ≡ bs = still qs p bs (held bs p.to) (opens qs p bs) refl refl (met.each p here) in
    ap (after_all qs ps) e ∙ met_stay qs ps bs (record { each = λ q h. met.each q (later h) })

-- P is true of the root, and goes along each passage
pub record GoesAlong (P : ℕ → Type 0) (qs : List Bool) (ps : List Passage) : Type 0 where
  pub each : (p : Passage) → In p ps → held qs p.pick ≡ true → P p.from → P p.to

both_true : (x y : Bool) → (x && y) ≡ true → (x ≡ true) × (y ≡ true)
both_true x y e = grind arith

sound_after : (P : ℕ → Type 0) (qs : List Bool) (p : Passage) (bs : List Bool) → p.to < length bs → (held qs p.pick ≡ true → P p.from → P p.to) → ((i : ℕ) → held bs i ≡ true → P i)
    → (i : ℕ) → held (after qs p bs) i ≡ true → P i
sound_after P qs p bs within goes f i h = elim (nat_cases i p.to) [
  | inl same ↦
      let h' : held (after qs p bs) p.to ≡ true = ap (λ j. held (after qs p bs) j) (sym same) ∙ h in
      subst P (sym same) (either (held bs p.to) (opens qs p bs) refl refl (sym (get_or-set_same bs p.to _ false within) ∙ h'))
  | inr other ↦ f i (sym (get_or-set_other bs p.to i _ false other) ∙ h)
]
  where
    either : (h k : Bool) → held bs p.to ≡ h → opens qs p bs ≡ k → (held bs p.to || opens qs p bs) ≡ true → P p.to
    either true k eh ek e = f p.to eh
    either false true eh ek e = let t = both_true (held bs p.from) (held qs p.pick) ek in goes t.1 (f p.from t.0)
    either false false eh ek e = let never : false ≡ true = sym (ap (λ b. b || opens qs p bs) eh ∙ ek) ∙ e in absurd (cc)

sound_all : (P : ℕ → Type 0) (n : ℕ) (qs : List Bool) (ps : List Passage) (bs : List Bool) → length bs ≡ n → EndWithin n ps → GoesAlong P qs ps → ((i : ℕ) → held bs i ≡ true → P i)
    → (i : ℕ) → held (after_all qs ps bs) i ≡ true → P i
sound_all P n qs [] bs l w goes f i h = f i h
sound_all P n qs (p ∷ ps) bs l w goes f i h =
    sound_all P n qs ps (after qs p bs) (length-after qs p bs ∙ l) (ends_tail w) (record { each = λ q k. goes.each q (later k) })
    (sound_after P qs p bs (let e = w.each p here in omega arith) (goes.each p here) f) i h

-- After k rounds the root is held, what is held has P, and all passages are met or k places are held.
pub record Progress (P : ℕ → Type 0) (n : ℕ) (qs : List Bool) (ps : List Passage) (root : ℕ) (now : List Bool) (k : ℕ) : Type 0 where
  pub len : length now ≡ n
  pub has_root : held now root ≡ true
  pub sound : (i : ℕ) → held now i ≡ true → P i
  pub grown : AreMet qs ps now ⊎ (k ≤ count now)

-- the end of all rounds
pub record IsDone (P : ℕ → Type 0) (qs : List Bool) (ps : List Passage) (root : ℕ) (now : List Bool) : Type 0 where
  pub has_root : held now root ≡ true
  pub sound : (i : ℕ) → held now i ≡ true → P i
  pub met : AreMet qs ps now

pub progress_round : (P : ℕ → Type 0) (n : ℕ) (qs : List Bool) (ps : List Passage) (root : ℕ) (now : List Bool) (k : ℕ) → EndWithin n ps → GoesAlong P qs ps
    → Progress P n qs ps root now k → Progress P n qs ps root (after_all qs ps now) (k + 1)
progress_round P n qs ps root now k w goes p = record {
  len = length-after_all qs ps now ∙ p.len;
  has_root = grows_all n qs ps now root p.len w p.has_root;
  sound = sound_all P n qs ps now p.len w goes p.sound;
  grown = further p.grown (round n qs ps now p.len w);
}
  where
    further : AreMet qs ps now ⊎ (k ≤ count now) → ((after_all qs ps now ≡ now) × AreMet qs ps now) ⊎ (count now + 1 ≤ count (after_all qs ps now))
        → AreMet qs ps (after_all qs ps now) ⊎ (k + 1 ≤ count (after_all qs ps now))
    further (inl met) q = inl (let Q : List Bool → Type 0 = λ v. AreMet qs ps v in subst Q (sym (met_stay qs ps now met)) met)
    further (inr many) (inl (e, met)) = inl (let Q : List Bool → Type 0 = λ v. AreMet qs ps v in subst Q (sym e) met)
    further (inr many) (inr more) = inr (omega arith)

-- more rounds than places
pub progress_end : (P : ℕ → Type 0) (n : ℕ) (qs : List Bool) (ps : List Passage) (root : ℕ) (now : List Bool) (k : ℕ) → n < k → Progress P n qs ps root now k → IsDone P qs ps root now
progress_end P n qs ps root now k h p = record { has_root = p.has_root; sound = p.sound; met = settled p.grown }
  where
    settled : AreMet qs ps now ⊎ (k ≤ count now) → AreMet qs ps now
    settled (inl met) = met
    settled (inr many) = let most = count-le now in let l = p.len in absurd (omega arith)

-- a round that changes nothing
pub progress_still : (P : ℕ → Type 0) (n : ℕ) (qs : List Bool) (ps : List Passage) (root : ℕ) (now : List Bool) (k : ℕ) → EndWithin n ps → after_all qs ps now ≡ now
    → Progress P n qs ps root now k → IsDone P qs ps root now
progress_still P n qs ps root now k w e p = record { has_root = p.has_root; sound = p.sound; met = settled (round n qs ps now p.len w) }
  where
    settled : ((after_all qs ps now ≡ now) × AreMet qs ps now) ⊎ (count now + 1 ≤ count (after_all qs ps now)) → AreMet qs ps now
    settled (inl (f, met)) = met
    settled (inr more) = let same : count (after_all qs ps now) ≡ count now = ap count e in absurd (omega arith)
