-- What is remembered of operations, and what the numbers alone tell.
use Rattle.std.proofs.Common.{◌≡◌, ℕ, ◌+◌, ◌-◌, ◌<◌, ◌≤◌, ◌⊎◌, inl, inr, Bool, true, false, cond, List, [], ◌∷◌, length, refl, sym, ◌∙◌, ap, subst, arith, All}
use Rattle.std.specs.Prelude.{None, Some}
use Rattle.std.specs.Map.{lookup}
use Rattle.std.proofs.lemmas.List.Elements.{All-nil, All-cons, All-head, All-tail, All-weaker}
use Rattle.indexmap.specs.IndexMap.{insert_entry}
use Rattle.lfg_context.specs.declared.diagram.Work.{Work}
use Rattle.lfg_context.specs.declared.op.Op.{Op}
use Rattle.lfg_context.specs.contracts.diagram.WorkPartialEq.TheImpl as works
use Rattle.lfg_context.specs.Cubes.{in_cubes, set_at}
use Rattle.lfg_context.specs.Tables.{Entry, cubes_at, IsTable, IsTop, IsProperFrom, Extends}
use Rattle.lfg_context.specs.Ops.{op_of, IsTrivial, IsResult, AreResults, IsCombined}
use Rattle.lfg_context.proofs.TestLaws.{proper_of_test, lowered, test_reads, blind_before}
use Rattle.lfg_context.proofs.Children.{terminal_proper}
use Rattle.lfg_context.proofs.Making.{entry_at, same_entry}
use Rattle.lfg_context.proofs.Combining.{tests_top}
use Rattle.lfg_context.proofs.Keys.{works_equal}

true_or_false : (b : Bool) → (b ≡ true) ⊎ (b ≡ false)
true_or_false true = inl refl
true_or_false false = inr refl

abbrev IsRight : List Entry → Work × ℕ → Type 0
IsRight es r = IsResult es r.0 r.1

-- a result of later nodes
result_grown : (es fs : List Entry) (w : Work) (n : ℕ) → Extends es fs → IsResult es w n → IsResult fs w n
result_grown es fs w n ext is = record {
  left = (let h = is.left in let l = ext.longer in omega arith);
  right = (let h = is.right in let l = ext.longer in omega arith);
  number = (let h = is.number in let l = ext.longer in omega arith);
  members = (λ a. ap (λ v. in_cubes v a) (ext.kept n is.number) ∙ is.members a
      ∙ ap (λ v. op_of w.op v (in_cubes (cubes_at es w.right) a)) (ap (λ v. in_cubes v a) (sym (ext.kept w.left is.left)))
      ∙ ap (λ v. op_of w.op (in_cubes (cubes_at fs w.left) a) v) (ap (λ v. in_cubes v a) (sym (ext.kept w.right is.right))));
}

pub results_grown : {es fs : List Entry} {rs : List (Work × ℕ)} → Extends es fs → AreResults es rs → AreResults fs rs
results_grown {es} {fs} {rs} ext are = record { each = All-weaker (IsRight es) (IsRight fs) (λ r is. result_grown es fs r.0 r.1 ext is) rs are.each }

pub no_results : (es : List Entry) → AreResults es []
no_results es = record { each = All-nil (IsRight es) }

-- what a look-up finds is right
found_result : (es : List Entry) (w : Work) (n : ℕ) (rs : List (Work × ℕ)) → lookup (works.ghosts.eq w) rs ≡ Some n → All (IsRight es) rs → IsResult es w n
found_result es w n [] e all = let bad : None ≡ Some n = e in absurd (cc)
found_result es w n (r ∷ rs) e all = elim (true_or_false (works.ghosts.eq w r.0)) [
  | inl same ↦
      let here : Some r.1 ≡ Some n = sym (ap (λ b. cond b (Some r.1) (lookup (works.ghosts.eq w) rs)) same) ∙ e in
      let number : r.1 ≡ n = cc in
      let key : r.0 ≡ w = sym (works_equal w r.0 same) in
      let P : Work → Type 0 = λ v. IsResult es v r.1 in
      let Q : ℕ → Type 0 = λ v. IsResult es w v in
      subst Q number (subst P key (All-head (IsRight es) r rs all))
  | inr other ↦ found_result es w n rs (sym (ap (λ b. cond b (Some r.1) (lookup (works.ghosts.eq w) rs)) other) ∙ e) (All-tail (IsRight es) r rs all)
]

pub remembered_result : (es : List Entry) (w : Work) (n : ℕ) (rs : List (Work × ℕ)) → AreResults es rs → lookup (works.ghosts.eq w) rs ≡ Some n → IsResult es w n
remembered_result es w n rs are e = found_result es w n rs e are.each

inserted : (es : List Entry) (w : Work) (n : ℕ) (rs : List (Work × ℕ)) → All (IsRight es) rs → IsResult es w n → All (IsRight es) (insert_entry works.ghosts.eq rs w n)
inserted es w n [] all is = All-cons (IsRight es) (w, n) [] is (All-nil (IsRight es))
inserted es w n (r ∷ rs) all is = elim (true_or_false (works.ghosts.eq w r.0)) [
  | inl same ↦
      let key : w ≡ r.0 = works_equal w r.0 same in
      let P : Work → Type 0 = λ v. IsResult es v n in
      let Q : List (Work × ℕ) → Type 0 = λ v. All (IsRight es) v in
      subst Q (sym (ap (λ b. cond b ((r.0, n) ∷ rs) (r ∷ insert_entry works.ghosts.eq rs w n)) same))
      (All-cons (IsRight es) (r.0, n) rs (subst P key is) (All-tail (IsRight es) r rs all))
  | inr other ↦
      let Q : List (Work × ℕ) → Type 0 = λ v. All (IsRight es) v in
      subst Q (sym (ap (λ b. cond b ((r.0, n) ∷ rs) (r ∷ insert_entry works.ghosts.eq rs w n)) other))
      (All-cons (IsRight es) r (insert_entry works.ghosts.eq rs w n) (All-head (IsRight es) r rs all) (inserted es w n rs (All-tail (IsRight es) r rs all) is))
]

pub results_inserted : (es : List Entry) (w : Work) (n : ℕ) (rs : List (Work × ℕ)) → AreResults es rs → IsResult es w n → AreResults es (insert_entry works.ghosts.eq rs w n)
results_inserted es w n rs are is = record { each = inserted es w n rs are.each is }

-- a number whose set does not read the choices before c tests none of them
pub proper_of_blind : (es : List Entry) (ar : ℕ → ℕ) (d c n : ℕ) → IsTable es ar d → n < length es + 2 → c ≤ d
    → ((e : ℕ) → e < c → (a : ℕ → ℕ) (v : ℕ) → in_cubes (cubes_at es n) a ≡ in_cubes (cubes_at es n) (set_at a e v)) → IsProperFrom ar d c (cubes_at es n)
proper_of_blind es ar d c n table h hc blind = elim (split n) [
  | inl low ↦ terminal_proper es ar d c n low
  | inr two ↦
      let e = entry_at es (n - 2) (omega arith) in
      let top : IsTop es n e.0.0.choice = record { none = (λ low. absurd (omega arith)); node = (λ _ x is. ap (λ v. v.0.choice) (same_entry es (n - 2) e.0 x (omega arith) e.1 is)) } in
      let at = tests_top es ar d e.0.0.choice n table two h top in
      elim (order c e.0.0.choice) [
        | inl le ↦ lowered ar d c e.0.0.choice (cubes_at es n) le (let b = at.within in omega arith) (proper_of_test ar d e.0.0.choice (cubes_at es n) at.kids at.within at.test)
        | inr more ↦ absurd (test_reads ar d e.0.0.choice (cubes_at es n) at.kids at.test (blind e.0.0.choice more))
      ]
]
  where
    split : (m : ℕ) → (m < 2) ⊎ (2 ≤ m)
    split m = grind arith

    order : (m k : ℕ) → (m ≤ k) ⊎ (k < m)
    order m k = grind arith

-- a result is what combining gives
pub combined_of_result : (es : List Entry) (ar : ℕ → ℕ) (d : ℕ) (w : Work) (n : ℕ) → IsTable es ar d → IsResult es w n → IsCombined es es ar d w.op w.left w.right n
combined_of_result es ar d w n table is = record {
  number = is.number;
  members = is.members;
  proper = (λ c hc p q. proper_of_blind es ar d c n table is.number hc (λ e h a v.
      is.members a
      ∙ ap (λ x. op_of w.op x (in_cubes (cubes_at es w.right) a)) (blind_before ar d e c (cubes_at es w.left) h p a v)
      ∙ ap (λ x. op_of w.op (in_cubes (cubes_at es w.left) (set_at a e v)) x) (blind_before ar d e c (cubes_at es w.right) h q a v)
      ∙ sym (is.members (set_at a e v))));
}

pub result_of_combined : (es fs : List Entry) (ar : ℕ → ℕ) (d : ℕ) (w : Work) (n : ℕ) → Extends es fs → w.left < length es + 2 → w.right < length es + 2
    → IsCombined es fs ar d w.op w.left w.right n → IsResult fs w n
result_of_combined es fs ar d w n ext hl hr is = record {
  left = (let l = ext.longer in omega arith);
  right = (let l = ext.longer in omega arith);
  number = is.number;
  members = (λ a. is.members a
      ∙ ap (λ v. op_of w.op v (in_cubes (cubes_at es w.right) a)) (ap (λ v. in_cubes v a) (sym (ext.kept w.left hl)))
      ∙ ap (λ v. op_of w.op (in_cubes (cubes_at fs w.left) a) v) (ap (λ v. in_cubes v a) (sym (ext.kept w.right hr))));
}

-- what the numbers alone tell
pub combined_trivial : (es : List Entry) (ar : ℕ → ℕ) (d : ℕ) (op : Op) (i j n : ℕ) → i < length es + 2 → j < length es + 2 → IsTrivial op i j n → IsCombined es es ar d op i j n
combined_trivial es ar d op i j n hi hj is = record {
  number = elim is.one_of [ inl e ↦ omega arith | inr (inl e) ↦ omega arith | inr (inr low) ↦ omega arith ];
  members = (λ a. is.members (λ m. in_cubes (cubes_at es m) a) refl refl);
  proper = (λ c hc p q.
      let P : ℕ → Type 0 = λ v. IsProperFrom ar d c (cubes_at es v) in
      elim is.one_of [ inl e ↦ subst P (sym e) p | inr (inl e) ↦ subst P (sym e) q | inr (inr low) ↦ terminal_proper es ar d c n low ]);
}

-- what is remembered stays right while nodes are added
pub results_kept : {es fs : List Entry} {rs ss : List (Work × ℕ)} → Extends es fs → ss ≡ rs → AreResults es rs → AreResults fs ss
results_kept {es} {fs} {rs} {ss} ext e are = let P : List (Work × ℕ) → Type 0 = λ v. AreResults fs v in subst P (sym e) (results_grown ext are)
