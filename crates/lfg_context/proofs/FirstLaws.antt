-- The first choice of a set, and its children.
use Rattle.std.proofs.Common.{◌≡◌, ℕ, ◌+◌, ◌-◌, ◌<◌, ◌≤◌, inl, inr, zero, suc, List, length, min, refl, sym, ◌∙◌, ap, subst, arith}
use Rattle.lfg_context.specs.Tables.{Entry, cubes_at, arity_in, IsTable, IsTop, IsChild}
use Rattle.lfg_context.specs.Cubes.{in_cubes, taken, set_at}
use Rattle.lfg_context.specs.Ops.{TestsAt}
use Rattle.lfg_context.specs.Seen.{Set}
use Rattle.lfg_context.specs.Sets.{member, IsConstant, IsFirstChoice, IsSetOf}
use Rattle.lfg_context.proofs.TestLaws.{proper_of_test, test_reads, blind_before}
use Rattle.lfg_context.proofs.SeenLaws.{seen, member_in, set_in}
use Rattle.lfg_context.proofs.Combining.{tests_top}

pub constant_in : (es : List Entry) (x : Set) → x.1 ≡ cubes_at es x.0 → x.0 < 2 → IsConstant x
constant_in es x e h = by_number x.0 h refl
  where
    by_number : (n : ℕ) → n < 2 → x.0 ≡ n → IsConstant x
    by_number zero h is = inl (λ a. member_in es x a e ∙ ap (λ n. in_cubes (cubes_at es n) a) is)
    by_number (suc zero) h is = inr (λ a. member_in es x a e ∙ ap (λ n. in_cubes (cubes_at es n) a) is)
    by_number (suc (suc n)) h is = absurd (omega arith)

pub first_in : (es : List Entry) (ar : ℕ → ℕ) (d t : ℕ) (x : Set) → x.1 ≡ cubes_at es x.0 → TestsAt es ar d t x.0 → IsFirstChoice x t
first_in es ar d t x e at = record {
  reads = (λ blind. test_reads ar d t (cubes_at es x.0) at.kids at.test (λ a v. sym (member_in es x a e) ∙ blind a v ∙ member_in es x (set_at a t v) e));
  blind = (λ c h a v. member_in es x a e ∙ blind_before ar d c t (cubes_at es x.0) h (proper_of_test ar d t (cubes_at es x.0) at.kids at.within at.test) a v ∙ sym (member_in es x (set_at a c v) e));
}

pub child_in : (es : List Entry) (as' : List ℕ) (t k m c : ℕ) (x z : Set) → IsTable es (arity_in as') (length as') → x.1 ≡ cubes_at es x.0 → t < length as' → k < arity_in as' t
    → IsChild es (arity_in as') (length as') t k t x.0 m → c ≡ t → z ≡ (m, cubes_at es m) → IsSetOf (seen es as') z (λ a. member x (set_at a c k))
child_in es as' t k m c x z table e ht hk child ec ez = set_in es as' m z (λ a. member x (set_at a c k)) table child.number ez (λ a.
    let here : set_at a t k t ≡ k = grind arith in
    let takes : taken (set_at a t k) t (arity_in as' t) ≡ k = ap (λ v. min v (arity_in as' t - 1)) here ∙ omega arith in
    blind_before (arity_in as') (length as') t (t + 1) (cubes_at es m) (omega arith) (child.proper ht) a k
    ∙ child.members (set_at a t k) takes ∙ sym (member_in es x (set_at a t k) e) ∙ ap (λ v. member x (set_at a v k)) (sym ec))

-- the first choice in the words of numbers
pub tests_seen : (es : List Entry) (ar : ℕ → ℕ) (d t n : ℕ) (x : Set) → IsTable es ar d → n ≡ x.0 → 2 ≤ n → x.0 < length es + 2 → IsTop es n t → TestsAt es ar d t x.0
tests_seen es ar d t n x table en two h top = let Q : ℕ → Type 0 = λ v. IsTop es v t in tests_top es ar d t x.0 table (omega arith) h (subst Q en top)
