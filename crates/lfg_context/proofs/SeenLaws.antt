-- The table in the words of contracts.
use Rattle.std.proofs.Common.{◌≡◌, ◌≢◌, ℕ, zero, suc, ◌+◌, ◌<◌, ◌≤◌, ◌⊎◌, inl, inr, Bool, true, false, nat_eq, List, [], ◌∷◌, length, map, get_or, refl, sym, ◌∙◌, ap, subst, arith}
use Rattle.std.proofs.lemmas.List.{length-map}
use Rattle.lfg_context.specs.Tables.{Entry, cubes_at, arity_in, IsTable, Extends}
use Rattle.lfg_context.specs.Cubes.{in_cubes, taken, child_of, IsProper}
use Rattle.lfg_context.specs.declared.op.Op.{Op}
use Rattle.lfg_context.specs.Ops.{op_of, IsCombined}
use Rattle.lfg_context.specs.Seen.{Set, Known}
use Rattle.lfg_context.specs.Sets.{Assignment, TakeAlike, cubes_in, member, arity_of, IsInTable, IsLater, IsMade, IsGrown, HasSamePicks, HasPicksOf, IsSetOf}
use Rattle.lfg_terms.specs.declared.choice.Choice.{Choice}
use Rattle.lfg_choice.specs.Choices.{alternatives_of}
use Rattle.lfg_context.proofs.Canonical.{Cubes, AllOf-child, in_test}
use Rattle.lfg_context.proofs.NumberLaws.{table_proper}
use Rattle.lfg_context.proofs.Wider.{Agrees}
use Rattle.lfg_context.proofs.Apart.{told}

abbrev pub seen : List Entry → List ℕ → Known
seen es as' = (map (λ e. e.1) es, as')

both_maps : (es : List Entry) → map (λ (x : Set). x.1) (map (λ e. e.1) es) ≡ map (λ e. e.1.1) es
both_maps [] = refl
both_maps (e ∷ es) = ap (λ v. e.1.1 ∷ v) (both_maps es)

pub cubes_in-seen : (es : List Entry) (n : ℕ) → cubes_in (map (λ e. e.1) es) n ≡ cubes_at es n
cubes_in-seen es n = ap (λ v. get_or ([] ∷ ([] ∷ []) ∷ v) n []) (both_maps es)

-- proper cubes read of an assignment only what it takes of each choice
pub reads_taken : (ar : ℕ → ℕ) (d n : ℕ) (x : Cubes) (a b : ℕ → ℕ) → IsProper ar d n x → TakeAlike ar a b → in_cubes x a ≡ in_cubes x b
reads_taken ar zero n x a b p e = elim p [ inl none ↦ ap (λ y. in_cubes y a) none ∙ sym (ap (λ y. in_cubes y b) none) | inr full ↦ ap (λ y. in_cubes y a) full ∙ sym (ap (λ y. in_cubes y b) full) ]
reads_taken ar (suc d) n x a b p e = elim p [
  | inl skipped ↦ reads_taken ar d (n + 1) x a b skipped e
  | inr test ↦
      let ks = test.0 in
      let t = test.1 in
      let len : length ks ≡ ar n = t.1 in
      let two : 2 ≤ ar n = t.2 in
      let i : ℕ = taken a n (ar n) in
      let i_in : i < length ks = omega arith in
      in_test ar (IsProper ar d (n + 1)) n x ks a t
      ∙ reads_taken ar d (n + 1) (child_of ks i) a b (AllOf-child (IsProper ar d (n + 1)) ks i i_in t.3) e
      ∙ ap (λ v. in_cubes (child_of ks v) b) (e n)
      ∙ sym (in_test ar (IsProper ar d (n + 1)) n x ks b t)
]

pub made_in : (k : Known) (es : List Entry) (as' : List ℕ) (x : Set) → seen es as' ≡ k → IsMade k x → (x.0 < length es + 2) × (x.1 ≡ cubes_at es x.0)
unfolding IsInTable
made_in k es as' x e m =
    let P : Known → Type 0 = λ v. (x.0 < length v.0 + 2) × (x.1 ≡ cubes_in v.0 x.0) in
    let f = subst P (sym e) (m.in_table.0, m.in_table.1) in
    (omega (arith, f.0, length-map es (λ e. e.1)), f.1 ∙ cubes_in-seen es x.0)

-- what the later contexts are, where the numbers of alternatives may have changed too
pub grown_by : (k : Known) (es fs : List Entry) (as' bs : List ℕ) → seen es as' ≡ k → Agrees (arity_in as') (arity_in bs) → Extends es fs → IsGrown k (seen fs bs)
unfolding IsLater arity_of
grown_by k es fs as' bs e agrees ext =
    let P : Known → Type 0 = λ v. IsGrown v (seen fs bs) in
    let le = ext.longer in
    let n_es = length-map es (λ e. e.1) in
    let n_fs = length-map fs (λ e. e.1) in
    subst P e (record { later = (omega arith, (λ n h. cubes_in-seen fs n ∙ ext.kept n (omega arith) ∙ sym (cubes_in-seen es n)), agrees) })

pub grown_in : (k : Known) (es fs : List Entry) (as' : List ℕ) → seen es as' ≡ k → Extends es fs → IsGrown k (seen fs as')
grown_in k es fs as' e ext = grown_by k es fs as' as' e (λ c two. refl) ext

pub picks_in : (k : Known) (es fs : List Entry) (as' : List ℕ) → seen es as' ≡ k → HasSamePicks k (seen fs as')
unfolding arity_of
picks_in k es fs as' e = record { arities = λ c. ap (λ v. get_or v.1 c 0) e }

pub set_in : (es : List Entry) (as' : List ℕ) (n : ℕ) (z : Set) (p : Assignment → Bool) → IsTable es (arity_in as') (length as') → n < length es + 2 → z ≡ (n, cubes_at es n)
    → ((a : Assignment) → in_cubes (cubes_at es n) a ≡ p a) → IsSetOf (seen es as') z p
unfolding IsInTable member arity_of
set_in es as' n z p table h e m =
    let P : Set → Type 0 = λ v. IsSetOf (seen es as') v p in
    subst P (sym e) (record {
      made = record { in_table = (omega (arith, length-map es (λ e. e.1)), sym (cubes_in-seen es n), λ a b alike. reads_taken (arity_in as') (length as') 0 (cubes_at es n) a b (table_proper es (arity_in as') (length as') n table h) alike) };
      members = m;
    })

pub member_in : (es : List Entry) (x : Set) (a : Assignment) → x.1 ≡ cubes_at es x.0 → member x a ≡ in_cubes (cubes_at es x.0) a
unfolding member
member_in es x a e = ap (λ v. in_cubes v a) e

eq_of_test : (i j : ℕ) → nat_eq i j ≡ true → i ≡ j
eq_of_test i j h = grind arith

test_of_eq : (i j : ℕ) → i ≡ j → nat_eq i j ≡ true
test_of_eq i j h = grind arith

pub same_in : (es : List Entry) (i j : ℕ) (x y : Set) → x.1 ≡ cubes_at es x.0 → y.1 ≡ cubes_at es y.0 → i ≡ x.0 → j ≡ y.0 → nat_eq i j ≡ true → (a : Assignment) → member x a ≡ member y a
same_in es i j x y fx fy ei ej h a = member_in es x a fx ∙ ap (λ n. in_cubes (cubes_at es n) a) (sym ei ∙ eq_of_test i j h ∙ ej) ∙ sym (member_in es y a fy)

-- different numbers have different members
pub differ_in : (es : List Entry) (ar : ℕ → ℕ) (d i j : ℕ) (x y : Set) → IsTable es ar d → (x.0 < length es + 2) × (x.1 ≡ cubes_at es x.0) → (y.0 < length es + 2) × (y.1 ≡ cubes_at es y.0) → i ≡ x.0 → j ≡ y.0
    → nat_eq i j ≡ false → (a : Assignment) × (member x a ≢ member y a)
differ_in es ar d i j x y table fx fy ei ej h = elim (told ar d 0 (cubes_at es x.0) (cubes_at es y.0) (table_proper es ar d x.0 table fx.0) (table_proper es ar d y.0 table fy.0)) [
  | inl e ↦
      let one : i ≡ j = ei ∙ table.apart x.0 y.0 fx.0 fy.0 e ∙ sym ej in
      let bad : true ≡ false = sym (test_of_eq i j one) ∙ h in
      absurd (cc)
  | inr d' ↦ (d'.0, λ e. d'.1 (sym (member_in es x d'.0 fx.1) ∙ e ∙ member_in es y d'.0 fy.1))
]

pub empty_in : (es : List Entry) (i : ℕ) (x : Set) → x.1 ≡ cubes_at es x.0 → i ≡ x.0 → nat_eq i 0 ≡ true → (a : Assignment) → member x a ≡ false
empty_in es i x fx ei h a = member_in es x a fx ∙ ap (λ n. in_cubes (cubes_at es n) a) (sym ei ∙ eq_of_test i 0 h)

-- a number that is not 0 has a member
pub some_in : (es : List Entry) (ar : ℕ → ℕ) (d i : ℕ) (x : Set) → IsTable es ar d → (x.0 < length es + 2) × (x.1 ≡ cubes_at es x.0) → i ≡ x.0 → nat_eq i 0 ≡ false → (a : Assignment) × (member x a ≡ true)
some_in es ar d i x table fx ei h =
    let none : Set = (0, cubes_at es 0) in
    let d' = differ_in es ar d i 0 x none table fx ((omega arith), refl) ei refl h in
    (d'.0, not_false (member x d'.0) (member_in es none d'.0 refl) d'.1)
  where
    not_false : (b : Bool) {c : Bool} → c ≡ false → b ≢ c → b ≡ true
    not_false true e n = refl
    not_false false e n = absurd (n (sym e))

pub combined_in : (es fs : List Entry) (as' : List ℕ) (ar : ℕ → ℕ) (d i j n : ℕ) (op : Op) (x y z : Set) → IsTable fs (arity_in as') (length as') → IsCombined es fs ar d op i j n → i ≡ x.0 → j ≡ y.0
    → x.1 ≡ cubes_at es x.0 → y.1 ≡ cubes_at es y.0 → z ≡ (n, cubes_at fs n) → IsSetOf (seen fs as') z (λ a. op_of op (member x a) (member y a))
combined_in es fs as' ar d i j n op x y z table done ei ej fx fy ez = set_in fs as' n z (λ a. op_of op (member x a) (member y a)) table done.number ez (λ a.
    done.members a
    ∙ ap (λ v. op_of op v (in_cubes (cubes_at es j) a)) (ap (λ m. in_cubes (cubes_at es m) a) ei ∙ sym (member_in es x a fx))
    ∙ ap (λ v. op_of op (member x a) v) (ap (λ m. in_cubes (cubes_at es m) a) ej ∙ sym (member_in es y a fy)))

pub arity_is : (k : Known) (es : List Entry) (as' : List ℕ) (c : ℕ) → seen es as' ≡ k → arity_of k c ≡ get_or as' c 0
unfolding arity_of
arity_is k es as' c e = ap (λ v. get_or v.1 c 0) (sym e)

-- what a pick leaves of the numbers of alternatives
pub agrees_by : (as' bs : List ℕ) (choice n : ℕ) → ((c : ℕ) → c ≢ choice → arity_in bs c ≡ arity_in as' c) → (arity_in bs choice ≡ arity_in as' choice) ⊎ (arity_in bs choice ≡ n)
    → (arity_in as' choice ≡ 0) ⊎ (arity_in as' choice ≡ n) → Agrees (arity_in as') (arity_in bs)
agrees_by as' bs choice n others kept consistent c two = elim (split c choice) [
  | inr other ↦ others c other
  | inl here ↦ ap (arity_in bs) here ∙ elim kept [
    | inl same ↦ same ∙ ap (arity_in as') (sym here)
    | inr is ↦ elim consistent [
      | inl none ↦ (let z : arity_in as' c ≡ 0 = ap (arity_in as') here ∙ none in absurd (omega arith))
      | inr was ↦ is ∙ sym was ∙ ap (arity_in as') (sym here)
    ]
  ]
]
  where
    split : (k c : ℕ) → (k ≡ c) ⊎ (k ≢ c)
    split k c = grind arith

pub others_by : (k : Known) (es fs : List Entry) (as' bs : List ℕ) (choice : ℕ) → seen es as' ≡ k → ((c : ℕ) → c ≢ choice → arity_in bs c ≡ arity_in as' c)
    → (c : ℕ) → c ≢ choice → arity_of (seen fs bs) c ≡ arity_of k c
unfolding arity_of
others_by k es fs as' bs choice e others c other = others c other ∙ ap (λ v. get_or v.1 c 0) e

pub picks_by : (k : Known) (es fs : List Entry) (as' bs : List ℕ) (space : List Choice) (choice n : ℕ) → seen es as' ≡ k → n ≡ alternatives_of space choice
    → ((c : ℕ) → c ≢ choice → arity_in bs c ≡ arity_in as' c) → (arity_in bs choice ≡ arity_in as' choice) ⊎ (arity_in bs choice ≡ n)
    → HasPicksOf k space → HasPicksOf (seen fs bs) space
unfolding arity_of
picks_by k es fs as' bs space choice n e en others kept picks = record { agrees = λ c h some. by_choice c h some (split c choice) }
  where
    split : (k c : ℕ) → (k ≡ c) ⊎ (k ≢ c)
    split k c = grind arith

    was : (c : ℕ) → c < length space → arity_in as' c ≢ 0 → arity_in as' c ≡ alternatives_of space c
    was c h some = let P : Known → Type 0 = λ v. get_or v.1 c 0 ≢ 0 → get_or v.1 c 0 ≡ alternatives_of space c in subst P (sym e) (picks.agrees c h) some

    by_choice : (c : ℕ) → c < length space → arity_in bs c ≢ 0 → (c ≡ choice) ⊎ (c ≢ choice) → arity_in bs c ≡ alternatives_of space c
    by_choice c h some (inr other) = others c other ∙ was c h (λ none. some (others c other ∙ none))
    by_choice c h some (inl here) = elim kept [
      | inl same ↦ (let eq : arity_in bs c ≡ arity_in as' c = ap (arity_in bs) here ∙ same ∙ ap (arity_in as') (sym here) in eq ∙ was c h (λ none. some (eq ∙ none)))
      | inr is ↦ ap (arity_in bs) here ∙ is ∙ en ∙ ap (alternatives_of space) (sym here)
    ]

pub consistent_in : (k : Known) (es : List Entry) (as' : List ℕ) (choice n m : ℕ) → seen es as' ≡ k → n ≡ m → (arity_of k choice ≡ 0) ⊎ (arity_of k choice ≡ m) → (arity_in as' choice ≡ 0) ⊎ (arity_in as' choice ≡ n)
consistent_in k es as' choice n m e en was =
    let P : ℕ → Type 0 = λ v. (v ≡ 0) ⊎ (v ≡ n) in
    let Q : ℕ → Type 0 = λ v. (arity_of k choice ≡ 0) ⊎ (arity_of k choice ≡ v) in
    subst P (arity_is k es as' choice e) (subst Q (sym en) was)
