-- The way down to the least member.
use Rattle.std.proofs.Common.{◌≡◌, ◌≢◌, ℕ, zero, suc, ◌+◌, ◌-◌, ◌<◌, ◌≤◌, ◌⊎◌, inl, inr, true, false, cond, nat_lt, List, [], ◌∷◌, ◌++◌, length, get_or, refl, sym, ◌∙◌, ap, subst, arith}
use Rattle.std.proofs.lemmas.List.{get_or_append_left, get_or_push, length-append}
use Rattle.lfg_context.specs.Cubes.{in_cubes, set_at}
use Rattle.lfg_context.specs.Tables.{Entry, cubes_at, IsTable, IsProperFrom, IsTop, IsChild}
use Rattle.lfg_context.specs.Ops.{TestsAt}
use Rattle.lfg_context.specs.Least.{AreBlindTo, IsLeastStep, IsPath, IsLeastOf}
use Rattle.lfg_context.proofs.Canonical.{reads_from}
use Rattle.lfg_context.proofs.TestLaws.{proper_of_test, test_reads}
use Rattle.lfg_context.proofs.Combining.{tests_top, top_unique, not_before}
use Rattle.lfg_context.proofs.Making.{entry_at, same_entry}
use Rattle.lfg_context.proofs.NumberLaws.{same_number}

low_or_high : (n : ℕ) → (n < 2) ⊎ (2 ≤ n)
low_or_high n = grind arith

-- a number reads the choices from the first that it tests on alone
reads_after : (es : List Entry) (ar : ℕ → ℕ) (d c n : ℕ) → IsTable es ar d → n < length es + 2 → ((t : ℕ) → IsTop es n t → c ≤ t) → (s : ℕ) → IsTop es n s
    → (a b : ℕ → ℕ) → ((e : ℕ) → c ≤ e → a e ≡ b e) → in_cubes (cubes_at es n) a ≡ in_cubes (cubes_at es n) b
reads_after es ar d c n table h later s top a b alike = elim (low_or_high n) [
  | inl low ↦ terminal n low
  | inr two ↦
      let at = tests_top es ar d s n table two h top in
      let le = later s top in
      reads_from ar (d - s) s (cubes_at es n) a b (proper_of_test ar d s (cubes_at es n) at.kids at.within at.test) (λ e below. alike e (omega arith))
]
  where
    terminal : (m : ℕ) → m < 2 → in_cubes (cubes_at es m) a ≡ in_cubes (cubes_at es m) b
    terminal zero low = refl
    terminal (suc zero) low = refl
    terminal (suc (suc m)) low = absurd (omega arith)

-- what is proper from a choice on tests no earlier one
later_of_proper : (es : List Entry) (ar : ℕ → ℕ) (d c n : ℕ) → IsTable es ar d → d ≤ 4294967295 → n < length es + 2 → c ≤ d → IsProperFrom ar d c (cubes_at es n) → (t : ℕ) → IsTop es n t → c ≤ t
later_of_proper es ar d c n table room h hc p t top = elim (low_or_high n) [
  | inl low ↦ (let e = top.none low in omega arith)
  | inr two ↦ not_before es ar d t c n (tests_top es ar d t n table two h top) p
]

-- a choice that the number does not test
pub skipped : (es : List Entry) (ar : ℕ → ℕ) (c n s : ℕ) → n < length es + 2 → 1 ≤ n → c ≤ s → s ≢ c → IsTop es n s → IsLeastStep es ar c n 0 n
skipped es ar c n s h some le other top = record {
  number = h;
  some = some;
  members = (λ a e. refl);
  least = (λ a e. absurd (omega arith));
  later = (λ t is. let e = top_unique es n s t h top is in grind arith);
  alternative = inl refl;
}

-- a choice that the number tests
pub stepped : (es : List Entry) (ar : ℕ → ℕ) (d c k n m : ℕ) → IsTable es ar d → d ≤ 4294967295 → TestsAt es ar d c n → k < ar c → 1 ≤ m → IsChild es ar d c k c n m
    → ((a : ℕ → ℕ) → a c < k → in_cubes (cubes_at es n) a ≡ false) → IsLeastStep es ar c n k m
stepped es ar d c k n m table room at hk some child none = record {
  number = child.number;
  some = some;
  members = (λ a e. child.members a (omega arith));
  least = none;
  later = later_of_proper es ar d (c + 1) m table room child.number (let w = at.within in omega arith) (child.proper at.within);
  alternative = inr (hk, λ blind. test_reads ar d c (cubes_at es n) at.kids at.test blind);
}

-- one more alternative without a member
pub none_yet : (es : List Entry) (ar : ℕ → ℕ) (d c k n m : ℕ) → k < ar c → IsChild es ar d c k c n m → m ≡ 0
    → ((a : ℕ → ℕ) → a c < k → in_cubes (cubes_at es n) a ≡ false) → (a : ℕ → ℕ) → a c < k + 1 → in_cubes (cubes_at es n) a ≡ false
none_yet es ar d c k n m hk child zero_is none a h = elim (split (a c) k h) [
  | inl less ↦ none a less
  | inr here ↦ sym (child.members a (omega arith)) ∙ ap (λ v. in_cubes (cubes_at es v) a) zero_is
]
  where
    split : (i j : ℕ) → i < j + 1 → (i < j) ⊎ (i ≡ j)
    split i j h = grind arith

-- a set with a member has one at the last alternative, if at no other
pub last_some : (es : List Entry) (ar : ℕ → ℕ) (d c k n m : ℕ) → IsTable es ar d → n < length es + 2 → 1 ≤ n → k + 1 ≡ ar c → IsChild es ar d c k c n m
    → ((a : ℕ → ℕ) → a c < k → in_cubes (cubes_at es n) a ≡ false) → 1 ≤ m
last_some es ar d c k n m table h some last child none = elim (zero_or_more m) [
  | inr more ↦ more
  | inl zero_is ↦
      let empty : (a : ℕ → ℕ) → in_cubes (cubes_at es n) a ≡ in_cubes (cubes_at es 0) a = λ a. elim (split (a c) k) [
        | inl less ↦ none a less
        | inr past ↦ sym (child.members a (omega arith)) ∙ ap (λ v. in_cubes (cubes_at es v) a) zero_is
      ] in
      let e = same_number es ar d n 0 table h (omega arith) empty in
      absurd (omega arith)
]
  where
    zero_or_more : (i : ℕ) → (i ≡ 0) ⊎ (1 ≤ i)
    zero_or_more i = grind arith

    split : (i j : ℕ) → (i < j) ⊎ (j ≤ i)
    split i j = grind arith

pub path_start : (es : List Entry) (ar : ℕ → ℕ) (n : ℕ) → n < length es + 2 → 1 ≤ n → IsPath es ar n [] 0 n
path_start es ar n h some = record {
  len = refl;
  number = h;
  some = some;
  members = (λ a e. refl);
  least = (λ a m j low. absurd (omega arith));
  later = (λ t top. omega arith);
  alternatives = (λ j low. absurd (omega arith));
}

-- the alternatives so far, and then those of another assignment
then_of : ℕ → List ℕ → (ℕ → ℕ) → ℕ → ℕ
then_of c xs a e = cond (nat_lt e c) (get_or xs e 0) (a e)

then_before : (c : ℕ) (xs : List ℕ) (a : ℕ → ℕ) (e : ℕ) → e < c → then_of c xs a e ≡ get_or xs e 0
unfolding then_of
then_before c xs a e h = grind arith

then_after : (c : ℕ) (xs : List ℕ) (a : ℕ → ℕ) (e : ℕ) → c ≤ e → then_of c xs a e ≡ a e
unfolding then_of
then_after c xs a e h = grind arith

-- what is left reads no choice that the set does not read
pub left_blind : (es : List Entry) (ar : ℕ → ℕ) (d c n m : ℕ) (xs : List ℕ) → IsTable es ar d → IsPath es ar n xs c m → (s : ℕ) → IsTop es m s → (e : ℕ) → c ≤ e
    → AreBlindTo (cubes_at es n) e → AreBlindTo (cubes_at es m) e
left_blind es ar d c n m xs table path s top e h blind a v =
    let b = then_of c xs a in
    reads_after es ar d c m table path.number path.later s top a b (λ j below. sym (then_after c xs a j below))
    ∙ path.members b (λ j before. then_before c xs a j before)
    ∙ blind b v
    ∙ sym (path.members (set_at b e v) (λ j before. other b j e before h ∙ then_before c xs a j before))
    ∙ reads_after es ar d c m table path.number path.later s top (set_at b e v) (set_at a e v) (λ j below. alike j below)
  where
    other : (b : ℕ → ℕ) (j k : ℕ) → j < c → c ≤ k → set_at b k v j ≡ b j
    other b j k before le = grind arith

    alike : (j : ℕ) → c ≤ j → set_at (then_of c xs a) e v j ≡ set_at a e v j
    alike j below = let same = then_after c xs a j below in grind arith

pub path_step : (es : List Entry) (ar : ℕ → ℕ) (d c n m k l : ℕ) (xs : List ℕ) → IsTable es ar d → (s : ℕ) → IsTop es m s → IsPath es ar n xs c m → IsLeastStep es ar c m k l → IsPath es ar n (xs ++ k ∷ []) (c + 1) l
path_step es ar d c n m k l xs table s top path step = record {
  len = length-append xs (k ∷ []) ∙ ap (λ v. v + 1) path.len;
  number = step.number;
  some = step.some;
  members = (λ a agrees. step.members a (agrees c (omega arith) ∙ new) ∙ path.members a (λ e h. agrees e (omega arith) ∙ old e h));
  least = (λ a is j h before. elim (split j c h) [
    | inl less ↦ (let le = path.least a is j less (λ e low. before e low ∙ old e (omega arith)) in let same = old j less in omega arith)
    | inr here ↦
        let low : (e : ℕ) → e < c → a e ≡ get_or xs e 0 = λ e h'. before e (omega arith) ∙ old e h' in
        let at_m : in_cubes (cubes_at es m) a ≡ true = path.members a low ∙ is in
        let value : get_or (xs ++ k ∷ []) j 0 ≡ k = ap (λ v. get_or (xs ++ k ∷ []) v 0) here ∙ new in
        let back : a j ≡ a c = ap a here in
        elim (either (a c) k) [
          | inl less ↦ (let bad : false ≡ true = sym (step.least a less) ∙ at_m in absurd (cc))
          | inr le ↦ omega arith
        ]
  ]);
  later = step.later;
  alternatives = (λ j h. elim (split j c h) [
    | inl less ↦
        let P : ℕ → Type 0 = λ v. (v ≡ 0) ⊎ ((v < ar j) × (AreBlindTo (cubes_at es n) j → ⊥)) in
        subst P (sym (old j less)) (path.alternatives j less)
    | inr here ↦
        let P : ℕ → Type 0 = λ v. (v ≡ 0) ⊎ ((v < ar c) × (AreBlindTo (cubes_at es n) c → ⊥)) in
        let Q : ℕ → Type 0 = λ i. (get_or (xs ++ k ∷ []) i 0 ≡ 0) ⊎ ((get_or (xs ++ k ∷ []) i 0 < ar i) × (AreBlindTo (cubes_at es n) i → ⊥)) in
        let at_c : (k ≡ 0) ⊎ ((k < ar c) × (AreBlindTo (cubes_at es n) c → ⊥)) = elim step.alternative [
          | inl none ↦ inl none
          | inr some ↦ inr (some.0, λ blind. some.1 (left_blind es ar d c n m xs table path s top c (omega arith) blind))
        ] in
        subst Q (sym here) (subst P (sym new) at_c)
  ]);
}
  where
    old : (e : ℕ) → e < c → get_or (xs ++ k ∷ []) e 0 ≡ get_or xs e 0
    old e h = let len = path.len in get_or_append_left xs (k ∷ []) 0 e (omega arith)

    new : get_or (xs ++ k ∷ []) c 0 ≡ k
    new = get_or_push xs k 0 c path.len

    split : (i j : ℕ) → i < j + 1 → (i < j) ⊎ (i ≡ j)
    split i j h = grind arith

    either : (i j : ℕ) → (i < j) ⊎ (j ≤ i)
    either i j = grind arith

-- at the end of the way only the full set is left
pub path_end : (es : List Entry) (ar : ℕ → ℕ) (d c n m : ℕ) (xs : List ℕ) → IsTable es ar d → (s : ℕ) → IsTop es m s → IsPath es ar n xs c m
    → ((e : ℕ) → c ≤ e → AreBlindTo (cubes_at es n) e) → IsLeastOf es ar n c xs
path_end es ar d c n m xs table s top path blind = record {
  len = path.len;
  is_member = sym (path.members (λ e. get_or xs e 0) (λ e h. refl)) ∙ full m path.some (elim (low_or_high m) [
    | inl low ↦ low
    | inr two ↦
        let at = tests_top es ar d s m table two path.number top in
        absurd (test_reads ar d s (cubes_at es m) at.kids at.test (left_blind es ar d c n m xs table path s top s (path.later s top) (blind s (path.later s top))))
  ]);
  least = path.least;
  alternatives = path.alternatives;
}
  where
    full : (i : ℕ) → 1 ≤ i → i < 2 → in_cubes (cubes_at es i) (λ e. get_or xs e 0) ≡ true
    full zero h low = absurd (omega arith)
    full (suc zero) h low = refl
    full (suc (suc i)) h low = absurd (omega arith)

-- a number whose first choice is a real one tests it
pub at_top : (es : List Entry) (ar : ℕ → ℕ) (d c n s : ℕ) → IsTable es ar d → n < length es + 2 → c < 4294967295 → IsTop es n s → s ≡ c → TestsAt es ar d c n
at_top es ar d c n s table h small top e = elim (low_or_high n) [
  | inl low ↦ (let none = top.none low in absurd (omega arith))
  | inr two ↦ let P : ℕ → Type 0 = λ v. TestsAt es ar d v n in subst P e (tests_top es ar d s n table two h top)
]

pub child_of_top : (es : List Entry) (ar : ℕ → ℕ) (d c k n m s : ℕ) → s ≡ c → IsTop es n s → ((t : ℕ) → IsTop es n t → IsChild es ar d c k t n m) → IsChild es ar d c k c n m
child_of_top es ar d c k n m s e top each = let P : ℕ → Type 0 = λ v. IsChild es ar d c k v n m in subst P e (each s top)

-- each number has a first choice
pub some_top : (es : List Entry) (n : ℕ) → n < length es + 2 → (t : ℕ) × IsTop es n t
some_top es n h = elim (low_or_high n) [
  | inl low ↦ (4294967295, record { none = λ _. refl; node = λ two. absurd (omega arith) })
  | inr two ↦
      let e = entry_at es (n - 2) (omega arith) in
      (e.0.0.choice, record { none = λ low. absurd (omega arith); node = λ _ x is. ap (λ v. v.0.choice) (same_entry es (n - 2) e.0 x (omega arith) e.1 is) })
]
