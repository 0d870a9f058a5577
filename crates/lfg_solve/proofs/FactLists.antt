-- What stands among the facts of a solution.
use Rattle.std.proofs.Common.{◌≡◌, ℕ, zero, suc, ◌+◌, Bool, true, false, cond, Option, Some, None, List, [], ◌∷◌, refl, sym, ap, subst, ◌∙◌, arith, inl, inr}
use Rattle.std.specs.Prelude.{slice_get, find}
use Rattle.std.proofs.lemmas.Option.{same_Some}
use Rattle.lfg_terms.specs.declared.node.Arg.{Arg}
use Rattle.lfg_terms.specs.declared.node.Fact.{Fact}
use Rattle.lfg_model.specs.Lists.{In, here, later}
use Rattle.lfg_model.specs.Terms.{Name}
use Rattle.lfg_model.specs.Readings.{has_attribute}
use Rattle.lfg_model.proofs.ListLaws.{In-nil, In-one, In-cons_cases}
use Rattle.lfg_solve.specs.NumberedFacts.{pair_facts, function_fact, function_facts}

module _ (relation : Name) (c : Arg) where
  pub function_at : (k : ℕ) (gs : List Name) (i m : ℕ) (g : Name) → slice_get gs i ≡ Some g → m ≡ k + i
      → In (function_fact relation c (suc m) g) (function_facts relation c k gs)
  function_at k [] i m g h e = cc
  function_at k (f ∷ gs) zero m g h e =
      let same : m ≡ k = omega arith in
      let it : g ≡ f = sym (same_Some f g h) in
      rw (same, it) here
  function_at k (f ∷ gs) (suc i) m g h e = later (function_at (suc k) gs i m g h (omega arith))

  pub function_from : (k : ℕ) (gs : List Name) (f : Fact) → In f (function_facts relation c k gs)
      → (i : ℕ) × (g : Name) × (slice_get gs i ≡ Some g) × (f ≡ function_fact relation c (suc (k + i)) g)
  function_from k [] f h = In-nil h
  function_from k (g ∷ gs) f h = elim (In-cons_cases h) [
    | inl e ↦ let z : k ≡ k + 0 = omega arith in (0, g, refl, e ∙ ap (λ n. function_fact relation c (suc n) g) z)
    | inr l ↦
        let r = function_from (suc k) gs f l in
        let z : suc k + r.0 ≡ k + suc r.0 = omega arith in
        (suc r.0, r.1, r.2, r.3 ∙ ap (λ n. function_fact relation c (suc n) r.1) z)
  ]

-- the fact of a pair
pub record IsOfPair (relation : Name) (first second : Option Arg) (f : Fact) : Type 0 where
  pub source : Arg
  pub target : Arg
  pub called_source : first ≡ Some source
  pub called_target : second ≡ Some target
  pub is : f ≡ has_attribute relation source target

pub pair_from : (relation : Name) (first second : Option Arg) (f : Fact) → In f (pair_facts relation first second) → IsOfPair relation first second f
pair_from relation None second f h = In-nil h
pair_from relation (Some c) None f h = In-nil h
pair_from relation (Some c) (Some u) f h = record { source = c; target = u; called_source = refl; called_target = refl; is = In-one h }

pub pair_at : (relation : Name) (first second : Option Arg) (c u : Arg) → first ≡ Some c → second ≡ Some u → In (has_attribute relation c u) (pair_facts relation first second)
pair_at relation first second c u e f = rw (e, f) here

-- a list that stands under a test
pub tested : {X : Type 0} (b : Bool) (xs : List X) (x : X) → In x (cond b xs []) → (b ≡ true) × In x xs
tested true xs x h = (refl, h)
tested false xs x h = In-nil h

pub passed : {X : Type 0} (b : Bool) (xs : List X) (x : X) → b ≡ true → In x xs → In x (cond b xs [])
passed b xs x e h = rw e h

-- what a search finds, and what it passes by
pub found_by : {X : Type 0} (p : X → Bool) (xs : List X) (x : X) → find p xs ≡ Some x → In x xs × (p x ≡ true)
found_by p [] x e = cc
found_by {X} p (y ∷ ys) x e = go (p y) refl (λ f. found_by p ys x f) e
  where
    go : (b : Bool) → p y ≡ b → (find p ys ≡ Some x → In x ys × (p x ≡ true)) → cond b (Some y) (find p ys) ≡ Some x → In x (y ∷ ys) × (p x ≡ true)
    go true t next f = let same : y ≡ x = same_Some y x f in (subst (λ (z : X). In z (y ∷ ys)) same here, ap p (sym same) ∙ t)
    go false t next f = let r = next f in (later r.0, r.1)

pub none_passes : {X : Type 0} (p : X → Bool) (xs : List X) (x : X) → find p xs ≡ None → In x xs → p x ≡ false
none_passes p [] x e h = In-nil h
none_passes {X} p (y ∷ ys) x e h = go (p y) refl (λ f l. none_passes p ys x f l) e
  where
    go : (b : Bool) → p y ≡ b → (find p ys ≡ None → In x ys → p x ≡ false) → cond b (Some y) (find p ys) ≡ None → p x ≡ false
    go true t next f = cc
    go false t next f = elim (In-cons_cases h) [ inl same ↦ ap p same ∙ t | inr l ↦ next f l ]
