use Rattle.std.proofs.Common.{◌≡◌, ℕ, zero, suc, ◌+◌, ◌<◌, ◌≤◌, List, [], ◌∷◌, ◌++◌, length, map, get_or, refl, sym, ◌∙◌, ap, subst, arith, All}
use Rattle.std.proofs.lemmas.List.{get_or-map, get_or_default, length-map, length-append}
use Rattle.std.proofs.lemmas.List.Elements.{All-from_get_or}
use Rattle.lfg_context.specs.Tables.{Entry}
use Rattle.lfg_context.specs.Seen.{Set, cubes_of_node}
use Rattle.lfg_context.specs.Cubes.{taken, in_cubes, glued, child_of, AllOf}
use Rattle.lfg_context.specs.Tables.{IsTestOf, cubes_at, IsTable, IsProperFrom, IsChoice, AreChildren}
use Rattle.lfg_context.proofs.Canonical.{Cubes, AllOf-child, in_test}
use Rattle.lfg_context.proofs.TestLaws.{proper_of_test, lowered}
use Rattle.lfg_context.proofs.TableLaws.{cubes_at-node, cubes_at-new, pushed}

-- the child's cubes, by its number
child_at : (f : ℕ → Cubes) (ks : List ℕ) (j : ℕ) → j < length ks → child_of (map f ks) j ≡ f (get_or ks j 0)
child_at f ks j h = get_or-map f ks j 0 [] h

taken_in : (a : ℕ → ℕ) (c n m : ℕ) → 2 ≤ n → m ≡ n → taken a c n < m
taken_in a c n m h e = omega arith

pub one_number : (es : List Entry) (ar : ℕ → ℕ) (d c first : ℕ) (ks : List ℕ) → AreChildren es ar d c ks → All (λ k. k ≡ first) ks → IsChoice es es ar d c ks first
one_number es ar d c first ks kids all =
    let here : 0 < length ks = (let two = kids.two in let len = kids.len in omega arith) in
    let is : get_or ks 0 0 ≡ first = all 0 0 here in
    let P : ℕ → Type 0 = λ v. v < length es + 2 in
    let Q : Cubes → Type 0 = λ v. IsProperFrom ar d (c + 1) v in
    record {
      number = subst P is (kids.below 0 0 here);
      members = (λ a. ap (λ v. in_cubes (cubes_at es v) a) (sym (all (taken a c (ar c)) 0 (taken_in a c (ar c) (length ks) kids.two kids.len))));
      proper = lowered ar d c (c + 1) (cubes_at es first) (omega arith) (let h = kids.choice in omega arith)
          (subst Q (child_at (cubes_at es) ks 0 here ∙ ap (cubes_at es) is) (AllOf-child (IsProperFrom ar d (c + 1)) (map (cubes_at es) ks) 0 (omega (arith, length-map ks (cubes_at es))) kids.proper));
    }

-- a set with this test is the choice
choice_of_test : (es fs : List Entry) (ar : ℕ → ℕ) (d c n : ℕ) (x : Cubes) (ks : List ℕ) → c < d → 2 ≤ ar c → length ks ≡ ar c → n < length fs + 2 → cubes_at fs n ≡ x
    → IsTestOf ar d c x (map (cubes_at es) ks) → IsChoice es fs ar d c ks n
choice_of_test es fs ar d c n x ks hc two len hn is t =
    let P : Cubes → Type 0 = λ v. IsProperFrom ar d c v in
    record {
      number = hn;
      members = (λ a. ap (λ v. in_cubes v a) is ∙ in_test ar (IsProperFrom ar d (c + 1)) c x (map (cubes_at es) ks) a t
          ∙ ap (λ v. in_cubes v a) (child_at (cubes_at es) ks (taken a c (ar c)) (taken_in a c (ar c) (length ks) two len)));
      proper = subst P (sym is) (proper_of_test ar d c x (map (cubes_at es) ks) hc t);
    }

pub found : (es : List Entry) (ar : ℕ → ℕ) (d c i : ℕ) (e : Entry) (ks : List ℕ) → IsTable es ar d → AreChildren es ar d c ks → i < length es → e ≡ get_or es i e
    → e.0.choice ≡ c → e.0.children.items ≡ ks → IsChoice es es ar d c ks (i + 2)
found es ar d c i e ks table kids h is ec ek =
    let node = table.nodes i e h is in
    let P : ℕ → Type 0 = λ v. IsTestOf ar d v e.1.1 (map (cubes_at es) e.0.children.items) in
    let Q : List ℕ → Type 0 = λ v. IsTestOf ar d c e.1.1 (map (cubes_at es) v) in
    choice_of_test es es ar d c (i + 2) e.1.1 ks kids.choice kids.two kids.len (omega arith) (cubes_at-node es i e h is) (subst Q ek (subst P ec node.test))

-- different numbers, different cubes
children_differ : (es : List Entry) (ar : ℕ → ℕ) (d c : ℕ) (ks : List ℕ) → IsTable es ar d → AreChildren es ar d c ks → (All (λ k. k ≡ get_or ks 0 0) ks → ⊥)
    → (z : Cubes) → AllOf (λ k. k ≡ z) (map (cubes_at es) ks) → ⊥
children_differ es ar d c ks table kids differ z all =
    let here : 0 < length ks = (let two = kids.two in let len = kids.len in omega arith) in
    let each : (j : ℕ) → j < length ks → cubes_at es (get_or ks j 0) ≡ z = λ j h.
    sym (child_at (cubes_at es) ks j h) ∙ AllOf-child (λ k. k ≡ z) (map (cubes_at es) ks) j (omega (arith, length-map ks (cubes_at es))) all in
    differ (All-from_get_or (λ k. k ≡ get_or ks 0 0) ks 0 (λ j h. table.apart (get_or ks j 0) (get_or ks 0 0) (kids.below j 0 h) (kids.below 0 0 here) (each j h ∙ sym (each 0 here))))

pub new_test : (es : List Entry) (ar : ℕ → ℕ) (d c : ℕ) (ks : List ℕ) (sets : List Set) → IsTable es ar d → AreChildren es ar d c ks → (All (λ k. k ≡ get_or ks 0 0) ks → ⊥)
    → map (λ x. x.1) sets ≡ map (cubes_at es) ks → IsTestOf ar d c (cubes_of_node c sets) (map (cubes_at es) ks)
new_test es ar d c ks sets table kids differ e =
    let len : length sets ≡ ar c = sym (length-map sets (λ x. x.1)) ∙ ap length e ∙ length-map ks (cubes_at es) ∙ kids.len in (
      ap (λ n. glued c n 0 (map (λ x. x.1) sets)) len ∙ ap (glued c (ar c) 0) e,
      length-map ks (cubes_at es) ∙ kids.len,
      kids.two,
      kids.proper,
      children_differ es ar d c ks table kids differ,
    )

-- the table with the new node, and what its number stands for
pub made : (es fs : List Entry) (ar : ℕ → ℕ) (d c n : ℕ) (new : Entry) (sets : List Set) → IsTable es ar d → AreChildren es ar d c new.0.children.items
    → (All (λ k. k ≡ get_or new.0.children.items 0 0) new.0.children.items → ⊥) → map (λ x. x.1) sets ≡ map (cubes_at es) new.0.children.items
    → new.0.choice ≡ c → n ≡ length es + 2 → new.1 ≡ (n, cubes_of_node c sets)
    → ((i : ℕ) (e : Entry) → i < length es → e ≡ get_or es i e → e.0.choice ≡ c → e.0.children.items ≡ new.0.children.items → ⊥)
    → fs ≡ es ++ new ∷ [] → IsTable fs ar d × IsChoice es fs ar d c new.0.children.items n
made es fs ar d c n new sets table kids differ e ec en ex fresh ef =
    let t = new_test es ar d c new.0.children.items sets table kids differ e in
    let cubes : new.1.1 ≡ cubes_of_node c sets = ap (λ v. v.1) ex in
    let P : Cubes → Type 0 = λ v. IsTestOf ar d c v (map (cubes_at es) new.0.children.items) in
    let t_new : IsTestOf ar d c new.1.1 (map (cubes_at es) new.0.children.items) = subst P (sym cubes) t in
    let Q : ℕ → Type 0 = λ v. IsTestOf ar d v new.1.1 (map (cubes_at es) new.0.children.items) in
    let R : List Entry → Type 0 = λ v. IsTable v ar d × IsChoice es v ar d c new.0.children.items n in
    let hc = kids.choice in
    subst R (sym ef) (
      pushed es ar d new table (ap (λ v. v.0) ex ∙ en) (omega arith) kids.below (subst Q (sym ec) t_new) (λ i x h is xc xk. fresh i x h is (xc ∙ ec) xk),
      choice_of_test es (es ++ new ∷ []) ar d c n new.1.1 new.0.children.items kids.choice kids.two kids.len (omega (arith, length-append es (new ∷ []))) (cubes_at-new es new n en) t_new,
    )

-- the entry at a place
pub entry_at : (es : List Entry) (i : ℕ) → i < length es → (e : Entry) × (e ≡ get_or es i e)
entry_at [] i h = absurd (omega arith)
entry_at (e ∷ es) zero h = (e, refl)
entry_at (e ∷ es) (suc i) h = entry_at es i (omega arith)

-- one place has one entry
pub same_entry : (es : List Entry) (i : ℕ) (e f : Entry) → i < length es → e ≡ get_or es i e → f ≡ get_or es i f → e ≡ f
same_entry es i e f h p q = p ∙ get_or_default es i e f h ∙ sym q
