-- more choices with alternatives: what was proper stays so
use Rattle.std.proofs.Common.{◌≡◌, ℕ, zero, suc, ◌+◌, ◌-◌, ◌<◌, ◌≤◌, ◌≢◌, Bool, true, false, ◌⊎◌, inl, inr, List, [], ◌∷◌, length, map, get_or, slice_set, refl, sym, ◌∙◌, ap, subst, arith, cond, ◌==◌}
use Rattle.std.proofs.lemmas.List.{get_or-map, length-map, get_or-set_same, get_or-set_other}
use Rattle.std.proofs.lemmas.List.Elements.{All-from_get_or}
use Rattle.lfg_context.specs.Tables.{Entry}
use Rattle.lfg_context.specs.Cubes.{in_cubes, taken, glued, AllOf, IsTest, IsProper}
use Rattle.lfg_context.specs.Tables.{cubes_at, IsTable, IsProperFrom, IsChoice, AreChildren, arity_in, PicksOne}
use Rattle.lfg_context.proofs.Canonical.{Cubes, AllOf-from}
use Rattle.lfg_context.proofs.Children.{empty_proper, full_proper, terminal_proper}

-- the alternatives that are there stay
abbrev pub Agrees : (ℕ → ℕ) → (ℕ → ℕ) → Type 0
Agrees ar br = (c : ℕ) → 2 ≤ ar c → br c ≡ ar c

all_wider : (P Q : Cubes → Type 0) → ((x : Cubes) → P x → Q x) → (ks : List Cubes) → AllOf P ks → AllOf Q ks
all_wider P Q f [] all = tt
all_wider P Q f (k ∷ ks) all = (f k all.0, all_wider P Q f ks all.1)

test_wider : (ar br : ℕ → ℕ) (P Q : Cubes → Type 0) (n : ℕ) (x : Cubes) (ks : List Cubes) → Agrees ar br → ((y : Cubes) → P y → Q y) → IsTest ar P n x ks → IsTest br Q n x ks
test_wider ar br P Q n x ks agree f t =
    let e : br n ≡ ar n = agree n t.2 in
    let two : 2 ≤ ar n = t.2 in
    (t.0 ∙ ap (λ m. glued n m 0 ks) (sym e), t.1 ∙ sym e, omega arith, all_wider P Q f ks t.3, t.4)

pub proper_wider : (ar br : ℕ → ℕ) (f g n : ℕ) (x : Cubes) → Agrees ar br → f ≤ g → IsProper ar f n x → IsProper br g n x
proper_wider ar br zero g n x agree h (inl e) = let P : Cubes → Type 0 = λ v. IsProper br g n v in subst P (sym e) (empty_proper br g n)
proper_wider ar br zero g n x agree h (inr e) = let P : Cubes → Type 0 = λ v. IsProper br g n v in subst P (sym e) (full_proper br g n)
proper_wider ar br (suc f) zero n x agree h p = absurd (omega arith)
proper_wider ar br (suc f) (suc g) n x agree h (inl p) = inl (proper_wider ar br f g (n + 1) x agree (omega arith) p)
proper_wider ar br (suc f) (suc g) n x agree h (inr t) =
    inr (t.0, test_wider ar br (IsProper ar f (n + 1)) (IsProper br g (n + 1)) n x t.0 agree (λ y p. proper_wider ar br f g (n + 1) y agree (omega arith) p) t.1)

pub table_wider : (es : List Entry) (ar br : ℕ → ℕ) (d e : ℕ) → Agrees ar br → d ≤ e → IsTable es ar d → IsTable es br e
table_wider es ar br d e agree h table = record {
  nodes = (λ i x hi is.
      let node = table.nodes i x hi is in
      record {
        number = node.number;
        choice = (let b = node.choice in omega arith);
        below = node.below;
        test = test_wider ar br (IsProper ar (d - (x.0.choice + 1)) (x.0.choice + 1)) (IsProper br (e - (x.0.choice + 1)) (x.0.choice + 1)) x.0.choice x.1.1 (map (cubes_at es) x.0.children.items) agree
            (λ y p. proper_wider ar br (d - (x.0.choice + 1)) (e - (x.0.choice + 1)) (x.0.choice + 1) y agree (omega arith) p) node.test;
      });
  apart = table.apart;
}

-- the last number of alternatives written in
pub agrees_set : (as' bs : List ℕ) (c n : ℕ) → ((k : ℕ) → arity_in bs k ≡ arity_in as' k) → c < length bs → (arity_in as' c ≡ 0) ⊎ (arity_in as' c ≡ n) → Agrees (arity_in as') (arity_in (slice_set bs c n))
agrees_set as' bs c n same h old k two = elim (split k c) [
  | inl e ↦
      let here : arity_in (slice_set bs c n) k ≡ n = ap (λ v. arity_in (slice_set bs c n) v) e ∙ get_or-set_same bs c n 0 h in
      here ∙ elim old [
        | inl none ↦ (let z : arity_in as' k ≡ 0 = ap (arity_in as') e ∙ none in absurd (omega arith))
        | inr is ↦ sym (ap (arity_in as') e ∙ is)
      ]
  | inr other ↦ get_or-set_other bs c k n 0 other ∙ same k
]
  where
    split : (k c : ℕ) → (k ≡ c) ⊎ (k ≢ c)
    split k c = grind arith

-- one alternative's children
pub picks_children : (es : List Entry) (ar : ℕ → ℕ) (d c n k : ℕ) (ks : List ℕ) → c < d → 2 ≤ n → ar c ≡ n → PicksOne ks n k → AreChildren es ar d c ks
picks_children es ar d c n k ks hc two ea p = record {
  choice = hc;
  two = omega arith;
  len = p.len ∙ sym ea;
  below = All-from_get_or (λ j. j < length es + 2) ks 0 (λ j h. let low = at_most j (let l = p.len in omega arith) in omega arith);
  proper = AllOf-from (IsProperFrom ar d (c + 1)) (map (cubes_at es) ks) (λ j h.
      let h' : j < length ks = omega (arith, length-map ks (cubes_at es)) in
      let P : Cubes → Type 0 = λ v. IsProperFrom ar d (c + 1) v in
      subst P (sym (get_or-map (cubes_at es) ks j 0 [] h')) (terminal_proper es ar d (c + 1) (get_or ks j 0) (at_most j (let l = p.len in omega arith))));
}
  where
    small : (b : Bool) → cond b 1 0 < 2
    small true = omega arith
    small false = omega arith

    at_most : (j : ℕ) → j < n → get_or ks j 0 < 2
    at_most j h = let P : ℕ → Type 0 = λ v. v < 2 in subst P (sym (p.here j h)) (small (j == k))

-- its members
pub picks_members : (es fs : List Entry) (ar : ℕ → ℕ) (d c n k m : ℕ) (ks : List ℕ) → 2 ≤ n → ar c ≡ n → PicksOne ks n k → IsChoice es fs ar d c ks m
    → (a : ℕ → ℕ) → in_cubes (cubes_at fs m) a ≡ (taken a c n == k)
picks_members es fs ar d c n k m ks two ea p made a =
    let i_in : taken a c n < n = omega arith in
    made.members a ∙ ap (λ v. in_cubes (cubes_at es (get_or ks (taken a c v) 0)) a) ea ∙ ap (λ v. in_cubes (cubes_at es v) a) (p.here (taken a c n) i_in) ∙ by_test (taken a c n == k)
  where
    by_test : (b : Bool) → in_cubes (cubes_at es (cond b 1 0)) a ≡ b
    by_test true = refl
    by_test false = refl
