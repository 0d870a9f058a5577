use Rattle.std.proofs.Common.{◌≡◌, ℕ, ◌+◌, ◌-◌, ◌<◌, ◌≤◌, ◌⊎◌, inl, inr, List, [], ◌∷◌, ◌++◌, length, map, min, get_or, refl, sym, ◌∙◌, ap, subst, arith}
use Rattle.std.proofs.lemmas.List.{get_or-map, length-map, get_or_default, get_or_append_left, get_or_push, length-append}
use Rattle.std.proofs.lemmas.List.Elements.{All-push, All-weaker}
use Rattle.lfg_context.specs.Tables.{Entry}
use Rattle.lfg_context.specs.declared.op.Op.{Op}
use Rattle.lfg_context.specs.Cubes.{taken, in_cubes}
use Rattle.lfg_context.specs.Tables.{cubes_at, IsTestOf, IsTable, IsProperFrom, IsTop, IsChild, Extends, IsChoice, AreChildren}
use Rattle.lfg_context.specs.Ops.{op_of, IsCombined, AreCombined, TestsAt, IsFirst}
use Rattle.lfg_context.proofs.Canonical.{Cubes, AllOf-from}
use Rattle.lfg_context.proofs.TestLaws.{lowered, test_reads, blind_before}
use Rattle.lfg_context.proofs.TableLaws.{cubes_at-node}
use Rattle.lfg_context.proofs.Making.{entry_at}

-- what a number tests first stays
pub top_kept : (es fs : List Entry) (n t : ℕ) → Extends es fs → n < length es + 2 → IsTop es n t → IsTop fs n t
top_kept es fs n t ext h top = record {
  none = top.none;
  node = (λ two e is.
      let here : n - 2 < length es = omega arith in
      let e0 = entry_at es (n - 2) here in
      let was = ext.entries (n - 2) e0.0 here e0.1 in
      let there : n - 2 < length fs = (let b = ext.longer in omega arith) in
      let same : e0.0 ≡ e = was ∙ get_or_default fs (n - 2) e0.0 e there ∙ sym is in
      top.node two e0.0 e0.1 ∙ ap (λ v. v.0.choice) same);
}

pub tests_top : (es : List Entry) (ar : ℕ → ℕ) (d t n : ℕ) → IsTable es ar d → 2 ≤ n → n < length es + 2 → IsTop es n t → TestsAt es ar d t n
tests_top es ar d t n table two h top =
    let here : n - 2 < length es = omega arith in
    let e = entry_at es (n - 2) here in
    let node = table.nodes (n - 2) e.0 here e.1 in
    let back : n ≡ (n - 2) + 2 = omega arith in
    let is : cubes_at es n ≡ e.0.1.1 = ap (cubes_at es) back ∙ cubes_at-node es (n - 2) e.0 here e.1 in
    let te : t ≡ e.0.0.choice = top.node two e.0 e.1 in
    let P : ℕ → Type 0 = λ v. IsTestOf ar d v e.0.1.1 (map (cubes_at es) e.0.0.children.items) in
    let Q : Cubes → Type 0 = λ v. IsTestOf ar d t v (map (cubes_at es) e.0.0.children.items) in
    record { kids = map (cubes_at es) e.0.0.children.items; test = subst Q (sym is) (subst P (sym te) node.test); within = (let b = node.choice in omega arith) }

-- one of the two tests the first choice of both
pub tests_first : (es : List Entry) (ar : ℕ → ℕ) (d s t i j : ℕ) → IsTable es ar d → d ≤ 4294967295 → i < length es + 2 → j < length es + 2 → IsTop es i s → IsTop es j t
    → (2 ≤ i) ⊎ (2 ≤ j) → TestsAt es ar d (min s t) i ⊎ TestsAt es ar d (min s t) j
tests_first es ar d s t i j table room hi hj is_i is_j some = by_cases (low_or_high i) (low_or_high j) some
  where
    low_or_high : (n : ℕ) → (n < 2) ⊎ (2 ≤ n)
    low_or_high n = grind arith

    first : TestsAt es ar d s i → s ≤ t → TestsAt es ar d (min s t) i
    first at le = let e : s ≡ min s t = omega arith in let P : ℕ → Type 0 = λ v. TestsAt es ar d v i in subst P e at

    second : TestsAt es ar d t j → t ≤ s → TestsAt es ar d (min s t) j
    second at le = let e : t ≡ min s t = omega arith in let P : ℕ → Type 0 = λ v. TestsAt es ar d v j in subst P e at

    either : (m n : ℕ) → (m ≤ n) ⊎ (n ≤ m)
    either m n = grind arith

    by_cases : (i < 2) ⊎ (2 ≤ i) → (j < 2) ⊎ (2 ≤ j) → (2 ≤ i) ⊎ (2 ≤ j) → TestsAt es ar d (min s t) i ⊎ TestsAt es ar d (min s t) j
    by_cases (inl li) (inl lj) (inl h) = absurd (omega arith)
    by_cases (inl li) (inl lj) (inr h) = absurd (omega arith)
    by_cases (inl li) (inr gj) some = let at = tests_top es ar d t j table gj hj is_j in inr (second at (let b = at.within in let m = is_i.none li in omega arith))
    by_cases (inr gi) (inl lj) some = let at = tests_top es ar d s i table gi hi is_i in inl (first at (let b = at.within in let m = is_j.none lj in omega arith))
    by_cases (inr gi) (inr gj) some = elim (either s t) [ inl le ↦ inl (first (tests_top es ar d s i table gi hi is_i) le) | inr le ↦ inr (second (tests_top es ar d t j table gj hj is_j) le) ]

-- what tests a choice isn't proper from a later one on
pub not_before : (es : List Entry) (ar : ℕ → ℕ) (d c n m : ℕ) → TestsAt es ar d c m → IsProperFrom ar d n (cubes_at es m) → n ≤ c
not_before es ar d c n m at p = elim (split n c) [ inl le ↦ le | inr lt ↦ absurd (test_reads ar d c (cubes_at es m) at.kids at.test (λ a v. blind_before ar d c n (cubes_at es m) lt p a v)) ]
  where
    split : (n c : ℕ) → (n ≤ c) ⊎ (c < n)
    split n c = grind arith

-- one more child
pub one_combined : (es fs gs : List Entry) (ar : ℕ → ℕ) (d c s t : ℕ) (op : Op) (i j x y n kk : ℕ) (ks : List ℕ) → length ks ≡ kk → Extends es fs → Extends fs gs → i < length es + 2 → j < length es + 2 → c < d
    → IsChild fs ar d c kk s i x → IsChild fs ar d c kk t j y → IsCombined fs gs ar d op x y n → AreCombined es fs ar d c op i j ks → AreCombined es gs ar d c op i j (ks ++ n ∷ [])
one_combined es fs gs ar d c s t op i j x y n kk ks ek ef fg hi hj hc kx ky one before = record {
  below = All-push (λ k. k < length gs + 2) ks n (All-weaker (λ k. k < length fs + 2) (λ k. k < length gs + 2) (λ k b. let l = fg.longer in omega arith) ks before.below) one.number;
  members = (λ k h a e. elim (old_or_new k h) [
    | inl old ↦
        let was = before.below k 0 old in
        ap (λ v. in_cubes (cubes_at gs v) a) (get_or_append_left ks (n ∷ []) 0 k old) ∙ ap (λ v. in_cubes v a) (fg.kept (get_or ks k 0) was) ∙ before.members k old a e
    | inr last ↦
        let here : taken a c (ar c) ≡ kk = e ∙ last ∙ ek in
        ap (λ v. in_cubes (cubes_at gs v) a) (get_or_push ks n 0 k (sym last)) ∙ one.members a
        ∙ ap (λ v. op_of op v (in_cubes (cubes_at fs y) a)) (kx.members a here ∙ ap (λ v. in_cubes v a) (ef.kept i hi))
        ∙ ap (λ v. op_of op (in_cubes (cubes_at es i) a) v) (ky.members a here ∙ ap (λ v. in_cubes v a) (ef.kept j hj))
  ]);
  proper = (λ k h. elim (old_or_new k h) [
    | inl old ↦
        let P : Cubes → Type 0 = λ v. IsProperFrom ar d (c + 1) v in
        subst P (sym (ap (cubes_at gs) (get_or_append_left ks (n ∷ []) 0 k old) ∙ fg.kept (get_or ks k 0) (before.below k 0 old))) (before.proper k old)
    | inr last ↦
        let P : ℕ → Type 0 = λ v. IsProperFrom ar d (c + 1) (cubes_at gs v) in
        subst P (sym (get_or_push ks n 0 k (sym last))) (one.proper (c + 1) (omega arith) (kx.proper hc) (ky.proper hc))
  ]);
}
  where
    old_or_new : (k : ℕ) → k < length (ks ++ n ∷ []) → (k < length ks) ⊎ (k ≡ length ks)
    old_or_new k h = let l = length-append ks (n ∷ []) in split k (length ks) (omega arith)
      where
        split : (i m : ℕ) → i < m + 1 → (i < m) ⊎ (i ≡ m)
        split i m h = grind arith

pub are_children : (es fs : List Entry) (ar : ℕ → ℕ) (d c : ℕ) (op : Op) (i j : ℕ) (ks : List ℕ) → TestsAt es ar d c i ⊎ TestsAt es ar d c j → length ks ≡ ar c → AreCombined es fs ar d c op i j ks → AreChildren fs ar d c ks
are_children es fs ar d c op i j ks some len done = record {
  choice = elim some [ inl at ↦ at.within | inr at ↦ at.within ];
  two = elim some [ inl at ↦ at.test.2 | inr at ↦ at.test.2 ];
  len = len;
  below = done.below;
  proper = AllOf-from (IsProperFrom ar d (c + 1)) (map (cubes_at fs) ks) (λ k h.
      let h' : k < length ks = omega (arith, length-map ks (cubes_at fs)) in
      let P : Cubes → Type 0 = λ v. IsProperFrom ar d (c + 1) v in
      subst P (sym (get_or-map (cubes_at fs) ks k 0 [] h')) (done.proper k h'));
}

-- all children together
pub combined : (es fs gs : List Entry) (ar : ℕ → ℕ) (d c : ℕ) (op : Op) (i j n : ℕ) (ks : List ℕ) → TestsAt es ar d c i ⊎ TestsAt es ar d c j → length ks ≡ ar c
    → AreCombined es fs ar d c op i j ks → IsChoice fs gs ar d c ks n → IsCombined es gs ar d op i j n
combined es fs gs ar d c op i j n ks some len done made = record {
  number = made.number;
  members = (λ a. made.members a ∙ done.members (taken a c (ar c)) (let two = kids.two in omega arith) a refl);
  proper = (λ m hm p q. lowered ar d m c (cubes_at gs n) (elim some [ inl at ↦ not_before es ar d c m i at p | inr at ↦ not_before es ar d c m j at q ]) (let b = kids.choice in omega arith) made.proper);
}
  where
    kids : AreChildren fs ar d c ks
    kids = are_children es fs ar d c op i j ks some len done

pub top_unique : (es : List Entry) (n s t : ℕ) → n < length es + 2 → IsTop es n s → IsTop es n t → s ≡ t
top_unique es n s t h p q = elim (split n) [
  | inl low ↦ p.none low ∙ sym (q.none low)
  | inr two ↦ let e = entry_at es (n - 2) (omega arith) in p.node two e.0 e.1 ∙ sym (q.node two e.0 e.1)
]
  where
    split : (n : ℕ) → (n < 2) ⊎ (2 ≤ n)
    split n = grind arith

pub first_le_i : (es fs : List Entry) (ar : ℕ → ℕ) (d i j c : ℕ) → IsFirst es ar d i j c → Extends es fs → i < length es + 2 → (t : ℕ) → IsTop fs i t → c ≤ t
first_le_i es fs ar d i j c f ext h t top =
    let e : f.s ≡ t = top_unique fs i f.s t (let b = ext.longer in omega arith) (top_kept es fs i f.s ext h f.i_top) top in
    let g = f.first in omega arith

pub first_le_j : (es fs : List Entry) (ar : ℕ → ℕ) (d i j c : ℕ) → IsFirst es ar d i j c → Extends es fs → j < length es + 2 → (t : ℕ) → IsTop fs j t → c ≤ t
first_le_j es fs ar d i j c f ext h t top =
    let e : f.t ≡ t = top_unique fs j f.t t (let b = ext.longer in omega arith) (top_kept es fs j f.t ext h f.j_top) top in
    let g = f.first in omega arith

-- the children together are smaller
pub children_smaller : (es fs : List Entry) (ar : ℕ → ℕ) (d c k s t i j x y : ℕ) → c ≡ min s t → IsChild fs ar d c k s i x → IsChild fs ar d c k t j y → x + y < i + j
children_smaller es fs ar d c k s t i j x y e kx ky = elim (either s t) [
  | inl le ↦ (let a = kx.less (omega arith) in let b = ky.no_greater in omega arith)
  | inr le ↦ (let a = ky.less (omega arith) in let b = kx.no_greater in omega arith)
]
  where
    either : (m n : ℕ) → (m ≤ n) ⊎ (n ≤ m)
    either m n = grind arith
