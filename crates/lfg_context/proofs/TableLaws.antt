use Rattle.std.proofs.Common.{◌≡◌, ℕ, zero, suc, ◌+◌, ◌-◌, ◌<◌, ◌≤◌, ◌⊎◌, inl, inr, List, [], ◌∷◌, ◌++◌, length, map, get_or, refl, sym, ◌∙◌, ap, subst, arith, All}
use Rattle.std.proofs.lemmas.List.{get_or_append_left, get_or_at, get_or_push, get_or_default, get_or-map, map-append, length-append, length-map}
use Rattle.std.proofs.lemmas.List.Elements.{All-head, All-tail}
use Rattle.lfg_context.specs.Tables.{Entry}
use Rattle.lfg_context.specs.Cubes.{in_cubes, IsTest, IsProper}
use Rattle.lfg_context.specs.Tables.{IsTestOf, all_cubes, cubes_at, IsNode, IsTable, Extends}
use Rattle.lfg_context.specs.Cubes.{set_at}
use Rattle.lfg_context.proofs.Canonical.{Cubes}
use Rattle.lfg_context.proofs.TestLaws.{test_reads, same_choice, same_kids}

pub length-all_cubes : (es : List Entry) → length (all_cubes es) ≡ length es + 2
length-all_cubes es = omega (arith, length-map es (λ e. e.1.1))

all_cubes-push : (es : List Entry) (e : Entry) → all_cubes (es ++ e ∷ []) ≡ all_cubes es ++ e.1.1 ∷ []
all_cubes-push es e = ap (λ v. [] ∷ ([] ∷ []) ∷ v) (map-append (λ x. x.1.1) es (e ∷ []))

pub cubes_at-push : (es : List Entry) (e : Entry) (n : ℕ) → n < length es + 2 → cubes_at (es ++ e ∷ []) n ≡ cubes_at es n
cubes_at-push es e n h =
    let h' : n < length (all_cubes es) = omega (arith, length-all_cubes es) in
    ap (λ v. get_or v n []) (all_cubes-push es e) ∙ get_or_append_left (all_cubes es) (e.1.1 ∷ []) [] n h'

pub cubes_at-new : (es : List Entry) (e : Entry) (n : ℕ) → n ≡ length es + 2 → cubes_at (es ++ e ∷ []) n ≡ e.1.1
cubes_at-new es e n h = ap (λ v. get_or v n []) (all_cubes-push es e) ∙ get_or_at (all_cubes es) e.1.1 [] [] n (length-all_cubes es ∙ sym h)

pub cubes_at-node : (es : List Entry) (i : ℕ) (e : Entry) → i < length es → e ≡ get_or es i e → cubes_at es (i + 2) ≡ e.1.1
cubes_at-node es i e h is =
    let two : i + 2 ≡ suc (suc i) = omega arith in
    ap (λ n. cubes_at es n) two ∙ get_or-map (λ x. x.1.1) es i e [] h ∙ ap (λ x. x.1.1) (sym is)

pub extends_refl : (es : List Entry) → Extends es es
extends_refl es = record { longer = omega arith; kept = (λ n h. refl); entries = λ i e h is. is }

pub extends_trans : {es fs gs : List Entry} → Extends es fs → Extends fs gs → Extends es gs
extends_trans {es} {fs} {gs} p q = record { longer = (let a = p.longer in let b = q.longer in omega arith); kept = (λ n h. q.kept n (let a = p.longer in omega arith) ∙ p.kept n h); entries = λ i e h is. q.entries i e (let a = p.longer in omega arith) (p.entries i e h is) }

pub extends_push : (es : List Entry) (e : Entry) → Extends es (es ++ e ∷ [])
extends_push es e = record { longer = omega (arith, length-append es (e ∷ [])); kept = (λ n h. cubes_at-push es e n h); entries = λ i x h is. is ∙ sym (get_or_append_left es (e ∷ []) x i h) }

-- the children's cubes stay
pub children_kept : (f g : ℕ → Cubes) (m : ℕ) (ns : List ℕ) → All (λ k. k < m) ns → ((n : ℕ) → n < m → f n ≡ g n) → map f ns ≡ map g ns
children_kept f g m [] all e = refl
children_kept f g m (n ∷ ns) all e =
    let head : f n ≡ g n = e n (All-head (λ k. k < m) n ns all) in
    let rest : map f ns ≡ map g ns = children_kept f g m ns (All-tail (λ k. k < m) n ns all) e in
    ap (λ v. v ∷ map f ns) head ∙ ap (λ v. g n ∷ v) rest

-- numbers that stand for different cubes are told apart by lists of them
pub same_numbers : (f : ℕ → Cubes) (m : ℕ) → ((i j : ℕ) → i < m → j < m → f i ≡ f j → i ≡ j) → (ns ks : List ℕ) → All (λ k. k < m) ns → All (λ k. k < m) ks → map f ns ≡ map f ks → ns ≡ ks
same_numbers f m apart [] [] p q e = refl
same_numbers f m apart [] (k ∷ ks) p q e = let bad : [] ≡ f k ∷ map f ks = e in absurd (cc)
same_numbers f m apart (n ∷ ns) [] p q e = let bad : f n ∷ map f ns ≡ [] = e in absurd (cc)
same_numbers f m apart (n ∷ ns) (k ∷ ks) p q e =
    let ee : f n ∷ map f ns ≡ f k ∷ map f ks = e in
    let he : f n ≡ f k = cc in
    let te : map f ns ≡ map f ks = cc in
    let head : n ≡ k = apart n k (All-head (λ k. k < m) n ns p) (All-head (λ k. k < m) k ks q) he in
    let rest : ns ≡ ks = same_numbers f m apart ns ks (All-tail (λ k. k < m) n ns p) (All-tail (λ k. k < m) k ks q) te in
    ap (λ v. v ∷ ns) head ∙ ap (λ v. k ∷ v) rest

weaker_below : (m n : ℕ) (ks : List ℕ) → m ≤ n → All (λ k. k < m) ks → All (λ k. k < n) ks
weaker_below m n ks h all k d k_in = let b = all k d k_in in omega arith

-- a node stays one
node_kept : (es fs : List Entry) (ar : ℕ → ℕ) (d i : ℕ) (e : Entry) → Extends es fs → i < length es → IsNode es ar d i e → IsNode fs ar d i e
node_kept es fs ar d i e ext h n = record {
  number = n.number;
  choice = n.choice;
  below = n.below;
  test = (let P : List Cubes → Type 0 = λ v. IsTest ar (IsProper ar (d - (e.0.choice + 1)) (e.0.choice + 1)) e.0.choice e.1.1 v in
      subst P (sym (children_kept (cubes_at fs) (cubes_at es) (i + 2) e.0.children.items n.below (λ k b. ext.kept k (omega arith)))) n.test);
}

-- a new node differs from all that are there
pub is_new : (es : List Entry) (ar : ℕ → ℕ) (d : ℕ) (new : Entry) → IsTable es ar d → new.0.choice < d → All (λ k. k < length es + 2) new.0.children.items
    → IsTestOf ar d new.0.choice new.1.1 (map (cubes_at es) new.0.children.items)
    → ((i : ℕ) (e : Entry) → i < length es → e ≡ get_or es i e → e.0.choice ≡ new.0.choice → e.0.children.items ≡ new.0.children.items → ⊥)
    → (j : ℕ) → j < length es + 2 → new.1.1 ≡ cubes_at es j → ⊥
is_new es ar d new table hc below t fresh zero h e =
    test_reads ar d new.0.choice new.1.1 _ t (λ a v. ap (λ x. in_cubes x a) e ∙ sym (ap (λ x. in_cubes x (set_at a new.0.choice v)) e))
is_new es ar d new table hc below t fresh (suc zero) h e =
    test_reads ar d new.0.choice new.1.1 _ t (λ a v. ap (λ x. in_cubes x a) e ∙ sym (ap (λ x. in_cubes x (set_at a new.0.choice v)) e))
is_new es ar d new table hc below t fresh (suc (suc i)) h e =
    let old : Entry = get_or es i new in
    let h' : i < length es = omega arith in
    let read : old ≡ get_or es i old = get_or_default es i new old h' in
    let node = table.nodes i old h' read in
    let two : suc (suc i) ≡ i + 2 = omega arith in
    let eq : new.1.1 ≡ old.1.1 = e ∙ ap (cubes_at es) two ∙ cubes_at-node es i old h' read in
    let alike : (a : ℕ → ℕ) → in_cubes old.1.1 a ≡ in_cubes new.1.1 a = λ a. ap (λ x. in_cubes x a) (sym eq) in
    let choices : old.0.choice ≡ new.0.choice = same_choice ar d old.0.choice new.0.choice old.1.1 new.1.1 _ _ node.choice hc node.test t alike in
    let P : ℕ → Type 0 = λ c. IsTestOf ar d c old.1.1 (map (cubes_at es) old.0.children.items) in
    let kids : map (cubes_at es) old.0.children.items ≡ map (cubes_at es) new.0.children.items = same_kids ar d new.0.choice old.1.1 new.1.1 _ _ (subst P choices node.test) t alike in
    fresh i old h' read choices (same_numbers (cubes_at es) (length es + 2) table.apart old.0.children.items new.0.children.items (weaker_below (i + 2) (length es + 2) old.0.children.items (omega arith) node.below) below kids)

-- the table with a new node
pub pushed : (es : List Entry) (ar : ℕ → ℕ) (d : ℕ) (new : Entry) → IsTable es ar d → new.1.0 ≡ length es + 2 → new.0.choice < d → All (λ k. k < length es + 2) new.0.children.items
    → IsTestOf ar d new.0.choice new.1.1 (map (cubes_at es) new.0.children.items)
    → ((i : ℕ) (e : Entry) → i < length es → e ≡ get_or es i e → e.0.choice ≡ new.0.choice → e.0.children.items ≡ new.0.children.items → ⊥)
    → IsTable (es ++ new ∷ []) ar d
pushed es ar d new table hn hc below t fresh = record {
  nodes = (λ i e h is. elim (old_or_new i h) [
    | inl old ↦
        let was : e ≡ get_or es i e = is ∙ get_or_append_left es (new ∷ []) e i old in
        node_kept es (es ++ new ∷ []) ar d i e (extends_push es new) old (table.nodes i e old was)
    | inr last ↦
        let eq : new ≡ e = sym (is ∙ get_or_push es new e i (sym last)) in
        let P : Entry → Type 0 = λ v. IsNode (es ++ new ∷ []) ar d i v in
        subst P eq (record {
          number = omega (arith, hn);
          choice = hc;
          below = (let Q : ℕ → Type 0 = λ m. All (λ k. k < m + 2) new.0.children.items in subst Q (sym last) below);
          test = (let Q : List Cubes → Type 0 = λ v. IsTest ar (IsProper ar (d - (new.0.choice + 1)) (new.0.choice + 1)) new.0.choice new.1.1 v in
              subst Q (sym (children_kept (cubes_at (es ++ new ∷ [])) (cubes_at es) (length es + 2) new.0.children.items below (λ k b. cubes_at-push es new k b))) t);
        })
  ]);
  apart = (λ i j hi hj e. elim (old_or_new_2 i hi) [
    | inl i_old ↦ elim (old_or_new_2 j hj) [
      | inl j_old ↦ table.apart i j i_old j_old (sym (cubes_at-push es new i i_old) ∙ e ∙ cubes_at-push es new j j_old)
      | inr j_new ↦ absurd (is_new es ar d new table hc below t fresh i i_old (sym (cubes_at-new es new j j_new) ∙ sym e ∙ cubes_at-push es new i i_old))
    ]
    | inr i_new ↦ elim (old_or_new_2 j hj) [
      | inl j_old ↦ absurd (is_new es ar d new table hc below t fresh j j_old (sym (cubes_at-new es new i i_new) ∙ e ∙ cubes_at-push es new j j_old))
      | inr j_new ↦ i_new ∙ sym j_new
    ]
  ]);
}
  where
    old_or_new : (i : ℕ) → i < length (es ++ new ∷ []) → (i < length es) ⊎ (i ≡ length es)
    old_or_new i h = let n = length-append es (new ∷ []) in split i (length es) (omega arith)
      where
        split : (i n : ℕ) → i < n + 1 → (i < n) ⊎ (i ≡ n)
        split i n h = grind arith

    old_or_new_2 : (i : ℕ) → i < length (es ++ new ∷ []) + 2 → (i < length es + 2) ⊎ (i ≡ length es + 2)
    old_or_new_2 i h = let n = length-append es (new ∷ []) in split i (length es + 2) (omega arith)
      where
        split : (i n : ℕ) → i < n + 1 → (i < n) ⊎ (i ≡ n)
        split i n h = grind arith

-- the set of a node is that of its number
pub ctx_is : (es : List Entry) (ar : ℕ → ℕ) (d i n : ℕ) (e : Entry) → IsTable es ar d → i < length es → e ≡ get_or es i e → n ≡ i + 2 → e.1 ≡ (n, cubes_at es n)
ctx_is es ar d i n e table h is en =
    let node = table.nodes i e h is in
    let first : e.1.0 ≡ n = node.number ∙ sym en in
    let second : e.1.1 ≡ cubes_at es n = sym (cubes_at-node es i e h is) ∙ ap (cubes_at es) (sym en) in
    ap (λ v. (v, e.1.1)) first ∙ ap (λ v. (n, v)) second
