use Rattle.std.proofs.Common.{◌≡◌, ◌≢◌, ℕ, zero, suc, ◌+◌, ◌-◌, ◌<◌, ◌≤◌, inl, inr, List, [], ◌∷◌, length, map, get_or, refl, sym, vec_len, ◌∙◌, ap, subst, arith}
use Rattle.std.proofs.lemmas.List.{get_or-map, length-map, get_or_read}
use Rattle.lfg_context.specs.Tables.{Entry}
use Rattle.lfg_context.specs.Cubes.{in_cubes, child_of, IsProper}
use Rattle.lfg_context.specs.Tables.{IsTestOf, cubes_at, IsTable, IsProperFrom, IsTop, IsChild}
use Rattle.lfg_context.proofs.Canonical.{Cubes, AllOf-child, in_test}
use Rattle.lfg_context.proofs.TestLaws.{proper_of_test, lowered}
use Rattle.lfg_context.proofs.TableLaws.{cubes_at-node}

pub empty_proper : (ar : ℕ → ℕ) (d n : ℕ) → IsProper ar d n []
empty_proper ar zero n = inl refl
empty_proper ar (suc d) n = inl (empty_proper ar d (n + 1))

pub full_proper : (ar : ℕ → ℕ) (d n : ℕ) → IsProper ar d n ([] ∷ [])
full_proper ar zero n = inr refl
full_proper ar (suc d) n = inl (full_proper ar d (n + 1))

pub terminal_proper : (es : List Entry) (ar : ℕ → ℕ) (d n m : ℕ) → m < 2 → IsProperFrom ar d n (cubes_at es m)
terminal_proper es ar d n zero h = empty_proper ar (d - n) n
terminal_proper es ar d n (suc zero) h = full_proper ar (d - n) n
terminal_proper es ar d n (suc (suc m)) h = absurd (omega arith)

pub child_terminal : (es : List Entry) (ar : ℕ → ℕ) (d c k t n : ℕ) → n < 2 → n < length es + 2 → c < d → d ≤ 4294967295 → IsTop es n t → IsChild es ar d c k t n n
child_terminal es ar d c k t n h hn hc room top = record {
  number = hn;
  members = (λ a e. refl);
  proper = (λ _. terminal_proper es ar d (c + 1) n h);
  no_greater = omega arith;
  less = (λ e. let e' = top.none h in absurd (omega arith));
}

-- the entry of a number
number_is : (es : List Entry) (n : ℕ) (e : Entry) → 2 ≤ n → n < length es + 2 → e ≡ get_or es (n - 2) e → cubes_at es n ≡ e.1.1
number_is es n e two h is = let back : n ≡ (n - 2) + 2 = omega arith in ap (cubes_at es) back ∙ cubes_at-node es (n - 2) e (omega arith) is

pub child_other : (es : List Entry) (ar : ℕ → ℕ) (d c k t n : ℕ) (e : Entry) → IsTable es ar d → 2 ≤ n → n < length es + 2 → e ≡ get_or es (n - 2) e → e.0.choice ≢ c
    → c ≤ t → IsTop es n t → IsChild es ar d c k t n n
child_other es ar d c k t n e table two h is other le top =
    let node = table.nodes (n - 2) e (omega arith) is in
    let te : t ≡ e.0.choice = top.node two e is in
    let later : c + 1 ≤ e.0.choice = grind arith in
    let P : Cubes → Type 0 = λ v. IsProperFrom ar d (c + 1) v in
    record {
      number = h;
      members = (λ a eq. refl);
      proper = (λ _. subst P (sym (number_is es n e two h is)) (lowered ar d (c + 1) e.0.choice e.1.1 later (let b = node.choice in omega arith) (proper_of_test ar d e.0.choice e.1.1 (map (cubes_at es) e.0.children.items) node.choice node.test)));
      no_greater = omega arith;
      less = (λ eq. absurd (other (sym te ∙ eq)));
    }

pub child_test : (es : List Entry) (ar : ℕ → ℕ) (d c k t n m : ℕ) (e : Entry) → IsTable es ar d → 2 ≤ n → n < length es + 2 → e ≡ get_or es (n - 2) e → e.0.choice ≡ c
    → k < ar c → m ≡ get_or e.0.children.items k m → IsChild es ar d c k t n m
child_test es ar d c k t n m e table two h is same hk read =
    let node = table.nodes (n - 2) e (omega arith) is in
    let P : ℕ → Type 0 = λ v. IsTestOf ar d v e.1.1 (map (cubes_at es) e.0.children.items) in
    let t' = subst P same node.test in
    let len : length e.0.children.items ≡ ar c = sym (length-map e.0.children.items (cubes_at es)) ∙ t'.1 in
    let k_in : k < length e.0.children.items = omega arith in
    let read0 : m ≡ get_or e.0.children.items k 0 = get_or_read e.0.children.items k m k_in read 0 in
    let smaller : m < n = (let b = node.below k m k_in in let Q : ℕ → Type 0 = λ v. v < (n - 2) + 2 in let b' = subst Q (sym read) b in omega arith) in
    let kid : child_of (map (cubes_at es) e.0.children.items) k ≡ cubes_at es m = get_or-map (cubes_at es) e.0.children.items k 0 [] k_in ∙ ap (cubes_at es) (sym read0) in
    let R : Cubes → Type 0 = λ v. IsProperFrom ar d (c + 1) v in
    record {
      number = omega arith;
      members = (λ a eq. ap (λ v. in_cubes v a) (sym kid) ∙ ap (λ j. in_cubes (child_of (map (cubes_at es) e.0.children.items) j) a) (sym eq)
          ∙ sym (in_test ar (IsProperFrom ar d (c + 1)) c e.1.1 (map (cubes_at es) e.0.children.items) a t') ∙ ap (λ v. in_cubes v a) (sym (number_is es n e two h is)));
      proper = (λ _. subst R kid (AllOf-child (IsProperFrom ar d (c + 1)) (map (cubes_at es) e.0.children.items) k (omega (arith, length-map e.0.children.items (cubes_at es))) t'.3));
      no_greater = omega arith;
      less = (λ _. smaller);
    }

-- a test has a child for each alternative
pub alternative_in : (es : List Entry) (ar : ℕ → ℕ) (d c k n : ℕ) (e : Entry) → IsTable es ar d → 2 ≤ n → n < length es + 2 → e ≡ get_or es (n - 2) e → e.0.choice ≡ c → k < ar c → k < vec_len e.0.children
alternative_in es ar d c k n e table two h is same hk =
    let node = table.nodes (n - 2) e (omega arith) is in
    let P : ℕ → Type 0 = λ v. IsTestOf ar d v e.1.1 (map (cubes_at es) e.0.children.items) in
    let t = subst P same node.test in
    let len : length e.0.children.items ≡ ar c = sym (length-map e.0.children.items (cubes_at es)) ∙ t.1 in
    let items : e.0.children.len ≡ length e.0.children.items = e.0.children.ok.0 in
    omega arith
