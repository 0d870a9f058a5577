use Rattle.std.proofs.Common.{◌≡◌, ℕ, zero, suc, ◌+◌, ◌-◌, ◌<◌, ◌≤◌, Bool, true, false, ◌&&◌, ◌||◌, inl, inr, List, [], ◌∷◌, ◌++◌, length, min, refl, sym, ◌∙◌, ap, arith}
use Rattle.lfg_context.specs.Cubes.{Pin}
use Rattle.lfg_context.specs.Cubes.{set_at, taken, pin_holds, cube_holds, in_cubes, pinned, glued, child_of, AllOf, IsTest, IsProper}

pub in_cubes-append : (xs ys : List (List Pin)) (a : ℕ → ℕ) → in_cubes (xs ++ ys) a ≡ (in_cubes xs a || in_cubes ys a)
in_cubes-append [] ys a = refl
in_cubes-append (x ∷ xs) ys a = ap (λ b. cube_holds a x || b) (in_cubes-append xs ys a) ∙ or_assoc (cube_holds a x) (in_cubes xs a) (in_cubes ys a)
  where
    or_assoc : (p q r : Bool) → (p || (q || r)) ≡ ((p || q) || r)
    or_assoc true q r = refl
    or_assoc false q r = refl

pub in_cubes-pinned : (p : Pin) (xs : List (List Pin)) (a : ℕ → ℕ) → in_cubes (pinned p xs) a ≡ (pin_holds a p && in_cubes xs a)
in_cubes-pinned p [] a = and_false (pin_holds a p)
  where
    and_false : (b : Bool) → false ≡ (b && false)
    and_false true = refl
    and_false false = refl
in_cubes-pinned p (x ∷ xs) a = ap (λ b. (pin_holds a p && cube_holds a x) || b) (in_cubes-pinned p xs a) ∙ spread (pin_holds a p) (cube_holds a x) (in_cubes xs a)
  where
    spread : (p q r : Bool) → ((p && q) || (p && r)) ≡ (p && (q || r))
    spread true q r = refl
    spread false q r = refl

-- no alternative from k on is taken
pub glued_past : (c n k : ℕ) (ks : List (List (List Pin))) (a : ℕ → ℕ) → taken a c n < k → in_cubes (glued c n k ks) a ≡ false
glued_past c n k [] a h = refl
glued_past c n k (x ∷ xs) a h =
    let p : Pin = record { choice = c; arity = n; alternative = k } in
    let no : pin_holds a p ≡ false = grind arith in
    in_cubes-append (pinned p x) (glued c n (k + 1) xs) a
    ∙ ap (λ b. b || in_cubes (glued c n (k + 1) xs) a) (in_cubes-pinned p x a)
    ∙ ap (λ b. (b && in_cubes x a) || in_cubes (glued c n (k + 1) xs) a) no
    ∙ glued_past c n (k + 1) xs a (omega arith)

-- the alternative that is taken decides
pub glued_at : (c n k i : ℕ) (ks : List (List (List Pin))) (a : ℕ → ℕ) → taken a c n ≡ k + i → i < length ks → in_cubes (glued c n k ks) a ≡ in_cubes (child_of ks i) a
glued_at c n k i [] a e h = absurd (omega arith)
glued_at c n k zero (x ∷ xs) a e h =
    let p : Pin = record { choice = c; arity = n; alternative = k } in
    let yes : pin_holds a p ≡ true = grind arith in
    in_cubes-append (pinned p x) (glued c n (k + 1) xs) a
    ∙ ap (λ b. b || in_cubes (glued c n (k + 1) xs) a) (in_cubes-pinned p x a)
    ∙ ap (λ b. (b && in_cubes x a) || in_cubes (glued c n (k + 1) xs) a) yes
    ∙ ap (λ b. in_cubes x a || b) (glued_past c n (k + 1) xs a (omega arith))
    ∙ or_false (in_cubes x a)
  where
    or_false : (b : Bool) → (b || false) ≡ b
    or_false true = refl
    or_false false = refl
glued_at c n k (suc i) (x ∷ xs) a e h =
    let p : Pin = record { choice = c; arity = n; alternative = k } in
    let no : pin_holds a p ≡ false = grind arith in
    in_cubes-append (pinned p x) (glued c n (k + 1) xs) a
    ∙ ap (λ b. b || in_cubes (glued c n (k + 1) xs) a) (in_cubes-pinned p x a)
    ∙ ap (λ b. (b && in_cubes x a) || in_cubes (glued c n (k + 1) xs) a) no
    ∙ glued_at c n (k + 1) i xs a (omega arith) (omega arith)

abbrev pub Cubes : Type 0
Cubes = List (List Pin)

-- what holds of each holds of the one at a place
pub AllOf-child : (P : Cubes → Type 0) (ks : List Cubes) (i : ℕ) → i < length ks → AllOf P ks → P (child_of ks i)
AllOf-child P [] i h all = absurd (omega arith)
AllOf-child P (x ∷ xs) zero h all = all.0
AllOf-child P (x ∷ xs) (suc i) h all = AllOf-child P xs i (omega arith) all.1

-- and the other way round
pub AllOf-from : (P : Cubes → Type 0) (ks : List Cubes) → ((i : ℕ) → i < length ks → P (child_of ks i)) → AllOf P ks
AllOf-from P [] each = tt
AllOf-from P (x ∷ xs) each = (each 0 (omega arith), AllOf-from P xs (λ i h. each (suc i) (omega arith)))

-- a test has the members of the child that the assignment takes
pub in_test : (ar : ℕ → ℕ) (P : Cubes → Type 0) (n : ℕ) (x : Cubes) (ks : List Cubes) (a : ℕ → ℕ) → IsTest ar P n x ks
    → in_cubes x a ≡ in_cubes (child_of ks (taken a n (ar n))) a
in_test ar P n x ks a t =
    let e = t.0 in
    let h : length ks ≡ ar n = t.1 in
    let two : 2 ≤ ar n = t.2 in
    ap (λ y. in_cubes y a) e ∙ glued_at n (ar n) 0 (taken a n (ar n)) ks a (omega arith) (omega arith)

-- membership in proper cubes reads the choices from n on alone
pub reads_from : (ar : ℕ → ℕ) (d n : ℕ) (x : Cubes) (a b : ℕ → ℕ) → IsProper ar d n x → ((c : ℕ) → n ≤ c → a c ≡ b c) → in_cubes x a ≡ in_cubes x b
reads_from ar zero n x a b p e = elim p [ inl none ↦ ap (λ y. in_cubes y a) none ∙ sym (ap (λ y. in_cubes y b) none) | inr full ↦ ap (λ y. in_cubes y a) full ∙ sym (ap (λ y. in_cubes y b) full) ]
reads_from ar (suc d) n x a b p e = elim p [
  | inl skipped ↦ reads_from ar d (n + 1) x a b skipped (λ c h. e c (omega arith))
  | inr test ↦
      let ks = test.0 in
      let t = test.1 in
      let len : length ks ≡ ar n = t.1 in
      let two : 2 ≤ ar n = t.2 in
      let i : ℕ = taken a n (ar n) in
      let same_i : taken a n (ar n) ≡ taken b n (ar n) = ap (λ v. min v (ar n - 1)) (e n (omega arith)) in
      let i_in : i < length ks = omega arith in
      in_test ar (IsProper ar d (n + 1)) n x ks a t
      ∙ reads_from ar d (n + 1) (child_of ks i) a b (AllOf-child (IsProper ar d (n + 1)) ks i i_in t.3) (λ c h. e c (omega arith))
      ∙ ap (λ v. in_cubes (child_of ks v) b) same_i
      ∙ sym (in_test ar (IsProper ar d (n + 1)) n x ks b t)
]

-- a child's members, in the words of the whole
pub child_members : (ar : ℕ → ℕ) (d n : ℕ) (x : Cubes) (ks : List Cubes) (i : ℕ) (a : ℕ → ℕ) → IsTest ar (IsProper ar d (n + 1)) n x ks → i < length ks
    → in_cubes (child_of ks i) a ≡ in_cubes x (set_at a n i)
child_members ar d n x ks i a t h =
    let len : length ks ≡ ar n = t.1 in
    let here : set_at a n i n ≡ i = grind arith in
    let takes : taken (set_at a n i) n (ar n) ≡ i = ap (λ v. min v (ar n - 1)) here ∙ omega arith in
    reads_from ar d (n + 1) (child_of ks i) a (set_at a n i) (AllOf-child (IsProper ar d (n + 1)) ks i h t.3) (λ c below. grind arith)
    ∙ sym (ap (λ v. in_cubes (child_of ks v) (set_at a n i)) takes)
    ∙ sym (in_test ar (IsProper ar d (n + 1)) n x ks (set_at a n i) t)

-- two lists of one length with the same children are equal
pub same_children : (ks ls : List Cubes) → length ks ≡ length ls → ((i : ℕ) → i < length ks → child_of ks i ≡ child_of ls i) → ks ≡ ls
same_children [] [] e each = refl
same_children [] (y ∷ ys) e each = absurd (omega arith)
same_children (x ∷ xs) [] e each = absurd (omega arith)
same_children (x ∷ xs) (y ∷ ys) e each =
    let head : x ≡ y = each 0 (omega arith) in
    let rest : xs ≡ ys = same_children xs ys (omega arith) (λ i h. each (suc i) (omega arith)) in
    cc

-- proper cubes of the choices from n on have one form
abbrev pub OneForm : (ℕ → ℕ) → ℕ → ℕ → Type 0
OneForm ar d n = (x y : Cubes) → IsProper ar d n x → IsProper ar d n y → ((a : ℕ → ℕ) → in_cubes x a ≡ in_cubes y a) → x ≡ y

-- a set that doesn't read the choice n isn't one that tests it: all children of the test would be the set
skip_test : (ar : ℕ → ℕ) (d n : ℕ) (u v : Cubes) → OneForm ar d (n + 1) → IsProper ar d (n + 1) u → ((ks : List Cubes) × IsTest ar (IsProper ar d (n + 1)) n v ks)
    → ((a : ℕ → ℕ) → in_cubes u a ≡ in_cubes v a) → u ≡ v
skip_test ar d n u v one skips tests alike =
    let ks = tests.0 in
    let t = tests.1 in
    let each : (i : ℕ) → i < length ks → child_of ks i ≡ u = λ i h.
    one (child_of ks i) u (AllOf-child (IsProper ar d (n + 1)) ks i h t.3) skips
    (λ a. child_members ar d n v ks i a t h ∙ sym (alike (set_at a n i)) ∙ reads_from ar d (n + 1) u (set_at a n i) a skips (λ c below. grind arith)) in
    absurd (t.4 u (AllOf-from (λ k. k ≡ u) ks each))

test_test : (ar : ℕ → ℕ) (d n : ℕ) (x y : Cubes) → OneForm ar d (n + 1) → ((ks : List Cubes) × IsTest ar (IsProper ar d (n + 1)) n x ks) → ((ks : List Cubes) × IsTest ar (IsProper ar d (n + 1)) n y ks)
    → ((a : ℕ → ℕ) → in_cubes x a ≡ in_cubes y a) → x ≡ y
test_test ar d n x y one xt yt same =
    let ks = xt.0 in
    let ls = yt.0 in
    let len_k : length ks ≡ ar n = xt.1.1 in
    let len_l : length ls ≡ ar n = yt.1.1 in
    let lens : length ks ≡ length ls = omega arith in
    let eq : ks ≡ ls = same_children ks ls lens (λ i h.
    let h' : i < length ls = omega arith in
    one (child_of ks i) (child_of ls i)
    (AllOf-child (IsProper ar d (n + 1)) ks i h xt.1.3) (AllOf-child (IsProper ar d (n + 1)) ls i h' yt.1.3)
    (λ a. child_members ar d n x ks i a xt.1 h ∙ same (set_at a n i) ∙ sym (child_members ar d n y ls i a yt.1 h'))) in
    xt.1.0 ∙ ap (λ v. glued n (ar n) 0 v) eq ∙ sym yt.1.0

-- one set has one form: proper cubes with the same members are equal
pub one_form : (ar : ℕ → ℕ) (d n : ℕ) → OneForm ar d n
one_form ar zero n x y p q same = elim p [
  | inl x_none ↦ elim q [
    | inl y_none ↦ x_none ∙ sym y_none
    | inr y_full ↦ let f : false ≡ true = sym (ap (λ v. in_cubes v (λ _. 0)) x_none) ∙ same (λ _. 0) ∙ ap (λ v. in_cubes v (λ _. 0)) y_full in absurd (cc)
  ]
  | inr x_full ↦ elim q [
    | inr y_full ↦ x_full ∙ sym y_full
    | inl y_none ↦ let f : true ≡ false = sym (ap (λ v. in_cubes v (λ _. 0)) x_full) ∙ same (λ _. 0) ∙ ap (λ v. in_cubes v (λ _. 0)) y_none in absurd (cc)
  ]
]
one_form ar (suc d) n x y p q same = elim p [
  | inl x_skips ↦ elim q [
    | inl y_skips ↦ one_form ar d (n + 1) x y x_skips y_skips same
    | inr y_tests ↦ skip_test ar d n x y (λ u v. one_form ar d (n + 1) u v) x_skips y_tests same
  ]
  | inr x_tests ↦ elim q [
    | inl y_skips ↦ sym (skip_test ar d n y x (λ u v. one_form ar d (n + 1) u v) y_skips x_tests (λ a. sym (same a)))
    | inr y_tests ↦ test_test ar d n x y (λ u v. one_form ar d (n + 1) u v) x_tests y_tests same
  ]
]
