-- what tests a choice, in the words of whole sets
use Rattle.std.proofs.Common.{◌≡◌, ℕ, zero, suc, ◌+◌, ◌-◌, ◌<◌, ◌≤◌, ◌⊎◌, inl, inr, List, length, sym, ◌∙◌, subst, arith}
use Rattle.lfg_context.specs.Cubes.{in_cubes, child_of, IsProper}
use Rattle.lfg_context.specs.Tables.{IsProperFrom, IsTestOf}
use Rattle.lfg_context.specs.Cubes.{set_at}
use Rattle.lfg_context.proofs.Canonical.{Cubes, AllOf-child, AllOf-from, reads_from, child_members, same_children, one_form}

one_more : (ar : ℕ → ℕ) (d n : ℕ) (x : Cubes) → n < d → IsProper ar (suc (d - (n + 1))) n x → IsProperFrom ar d n x
one_more ar d n x h p = let e : suc (d - (n + 1)) ≡ d - n = omega arith in let P : ℕ → Type 0 = λ v. IsProper ar v n x in subst P e p

pub proper_of_test : (ar : ℕ → ℕ) (d c : ℕ) (x : Cubes) (ks : List Cubes) → c < d → IsTestOf ar d c x ks → IsProperFrom ar d c x
proper_of_test ar d c x ks h t = one_more ar d c x h (inr (ks, t))

-- what is proper from a later choice on is so from an earlier one on
pub earlier : (ar : ℕ → ℕ) (d n k : ℕ) (x : Cubes) → n + k ≤ d → IsProperFrom ar d (n + k) x → IsProperFrom ar d n x
earlier ar d n zero x h p = let e : n + 0 ≡ n = omega arith in let P : ℕ → Type 0 = λ v. IsProperFrom ar d v x in subst P e p
earlier ar d n (suc k) x h p =
    let e : n + suc k ≡ (n + 1) + k = omega arith in
    let P : ℕ → Type 0 = λ v. IsProperFrom ar d v x in
    one_more ar d n x (omega arith) (inl (earlier ar d (n + 1) k x (omega arith) (subst P e p)))

pub lowered : (ar : ℕ → ℕ) (d n m : ℕ) (x : Cubes) → n ≤ m → m ≤ d → IsProperFrom ar d m x → IsProperFrom ar d n x
lowered ar d n m x le h p =
    let e : m ≡ n + (m - n) = omega arith in
    let P : ℕ → Type 0 = λ v. IsProperFrom ar d v x in
    earlier ar d n (m - n) x (omega arith) (subst P e p)

-- a test of a choice reads it
pub test_reads : (ar : ℕ → ℕ) (d c : ℕ) (x : Cubes) (ks : List Cubes) → IsTestOf ar d c x ks → ((a : ℕ → ℕ) (v : ℕ) → in_cubes x a ≡ in_cubes x (set_at a c v)) → ⊥
test_reads ar d c x ks t blind =
    let len : length ks ≡ ar c = t.1 in
    let two : 2 ≤ ar c = t.2 in
    let zero_in : 0 < length ks = omega arith in
    let each : (i : ℕ) → i < length ks → child_of ks i ≡ child_of ks 0 = λ i h.
    one_form ar (d - (c + 1)) (c + 1) (child_of ks i) (child_of ks 0) (AllOf-child (IsProperFrom ar d (c + 1)) ks i h t.3) (AllOf-child (IsProperFrom ar d (c + 1)) ks 0 zero_in t.3)
    (λ a. child_members ar (d - (c + 1)) c x ks i a t h ∙ sym (blind a i) ∙ blind a 0 ∙ sym (child_members ar (d - (c + 1)) c x ks 0 a t zero_in)) in
    t.4 (child_of ks 0) (AllOf-from (λ k. k ≡ child_of ks 0) ks each)

-- what is proper from a later choice on doesn't read an earlier one
pub blind_before : (ar : ℕ → ℕ) (d c n : ℕ) (x : Cubes) → c < n → IsProperFrom ar d n x → (a : ℕ → ℕ) (v : ℕ) → in_cubes x a ≡ in_cubes x (set_at a c v)
blind_before ar d c n x h p a v = reads_from ar (d - n) n x a (set_at a c v) p (λ k below. grind arith)

-- equal sets test the same choice first, and have the same children
pub same_choice : (ar : ℕ → ℕ) (d c e : ℕ) (x y : Cubes) (ks ls : List Cubes) → c < d → e < d → IsTestOf ar d c x ks → IsTestOf ar d e y ls
    → ((a : ℕ → ℕ) → in_cubes x a ≡ in_cubes y a) → c ≡ e
same_choice ar d c e x y ks ls hc he t u same = elim (three c e) [
  | inl less ↦ absurd (test_reads ar d c x ks t (λ a v. same a ∙ blind_before ar d c e y less (proper_of_test ar d e y ls he u) a v ∙ sym (same (set_at a c v))))
  | inr (inl eq) ↦ eq
  | inr (inr more) ↦ absurd (test_reads ar d e y ls u (λ a v. sym (same a) ∙ blind_before ar d e c x more (proper_of_test ar d c x ks hc t) a v ∙ same (set_at a e v)))
]
  where
    three : (m n : ℕ) → (m < n) ⊎ ((m ≡ n) ⊎ (n < m))
    three m n = grind arith

pub same_kids : (ar : ℕ → ℕ) (d c : ℕ) (x y : Cubes) (ks ls : List Cubes) → IsTestOf ar d c x ks → IsTestOf ar d c y ls
    → ((a : ℕ → ℕ) → in_cubes x a ≡ in_cubes y a) → ks ≡ ls
same_kids ar d c x y ks ls t u same =
    let len_k : length ks ≡ ar c = t.1 in
    let len_l : length ls ≡ ar c = u.1 in
    let lens : length ks ≡ length ls = omega arith in
    same_children ks ls lens (λ i h.
    let h' : i < length ls = omega arith in
    one_form ar (d - (c + 1)) (c + 1) (child_of ks i) (child_of ls i)
    (AllOf-child (IsProperFrom ar d (c + 1)) ks i h t.3) (AllOf-child (IsProperFrom ar d (c + 1)) ls i h' u.3)
    (λ a. child_members ar (d - (c + 1)) c x ks i a t h ∙ same (set_at a c i) ∙ sym (child_members ar (d - (c + 1)) c y ls i a u h')))
