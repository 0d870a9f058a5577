-- Numbers of the table: each stands for a set of its own.
use Rattle.std.proofs.Common.{◌≡◌, ℕ, ◌+◌, ◌-◌, ◌<◌, ◌≤◌, ◌⊎◌, inl, inr, List, length, sym, ◌∙◌, ap, subst, arith}
use Rattle.lfg_context.specs.Cubes.{in_cubes, IsProper}
use Rattle.lfg_context.specs.Tables.{Entry, cubes_at, IsTable, IsProperFrom}
use Rattle.lfg_context.proofs.Canonical.{Cubes, one_form}
use Rattle.lfg_context.proofs.TestLaws.{proper_of_test, lowered}
use Rattle.lfg_context.proofs.TableLaws.{cubes_at-node}
use Rattle.lfg_context.proofs.Children.{terminal_proper}
use Rattle.lfg_context.proofs.Making.{entry_at}

-- each number's cubes are proper
pub table_proper : (es : List Entry) (ar : ℕ → ℕ) (d n : ℕ) → IsTable es ar d → n < length es + 2 → IsProper ar d 0 (cubes_at es n)
table_proper es ar d n table h = let P : ℕ → Type 0 = λ v. IsProper ar v 0 (cubes_at es n) in let e : d - 0 ≡ d = omega arith in subst P e (elim (split n) [
  | inl low ↦ terminal_proper es ar d 0 n low
  | inr two ↦
      let here : n - 2 < length es = omega arith in
      let x = entry_at es (n - 2) here in
      let node = table.nodes (n - 2) x.0 here x.1 in
      let back : n ≡ (n - 2) + 2 = omega arith in
      let is : cubes_at es n ≡ x.0.1.1 = ap (cubes_at es) back ∙ cubes_at-node es (n - 2) x.0 here x.1 in
      let Q : Cubes → Type 0 = λ v. IsProperFrom ar d 0 v in
      subst Q (sym is) (lowered ar d 0 x.0.0.choice x.0.1.1 (omega arith) (let b = node.choice in omega arith) (proper_of_test ar d x.0.0.choice x.0.1.1 _ node.choice node.test))
])
  where
    split : (n : ℕ) → (n < 2) ⊎ (2 ≤ n)
    split n = grind arith

-- numbers with the same members are one
pub same_number : (es : List Entry) (ar : ℕ → ℕ) (d i j : ℕ) → IsTable es ar d → i < length es + 2 → j < length es + 2 → ((a : ℕ → ℕ) → in_cubes (cubes_at es i) a ≡ in_cubes (cubes_at es j) a) → i ≡ j
same_number es ar d i j table hi hj same = table.apart i j hi hj (one_form ar d 0 (cubes_at es i) (cubes_at es j) (table_proper es ar d i table hi) (table_proper es ar d j table hj) same)
