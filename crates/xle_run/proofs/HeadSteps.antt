-- How the heads of rules and the forms of words are gathered, one after another.
use Rattle.std.proofs.Common.{◌≡◌, ◌≢◌, ℕ, zero, suc, ◌+◌, ◌<◌, Bool, true, false, cond, not, Option, Some, None, is_some, List, [], ◌∷◌, ◌++◌, map, length, get_or, take, refl, ap, sym, ◌∙◌, subst, arith}
use Rattle.std.proofs.lemmas.Bool.{false≢true}
use Rattle.std.proofs.lemmas.List.{take_more}
use Rattle.std.proofs.lemmas.Cmp.{nat_list_eq_equiv}
use Rattle.std.specs.Cmp.Lexicographic.{same_text}
use Rattle.std.specs.Ordering.{is_eq}
use Rattle.lfg_terms.specs.Order.{name_cmp}
use Rattle.lfg_model.specs.Lists.{In, Once, none}
use Rattle.lfg_model.specs.Terms.{Name}
use Rattle.lfg_model.specs.Thin.{empty_item}
use Rattle.lfg_model.specs.ThinText.{same}
use Rattle.xle_run.specs.Heads.{HaveOwnRules, place_of}
use Rattle.xle_run.proofs.Places.{stands, none_more}
use Rattle.xle_run.proofs.PlacesOf.{In_from_place, not_in, place-push, twice, once_more, name_from_test}

-- ---- tests

pub same_refl : (x : Name) → same x x ≡ true
same_refl x = nat_list_eq_equiv.refl x

pub differ : (x y : Name) → false ≡ same x y → x ≢ y
differ x y e s = false≢true (e ∙ subst (λ (z : Name). same x z ≡ true) s (same_refl x))

none_from : {X : Type 0} (o : Option X) → is_some o ≡ false → o ≡ None
none_from None e = refl
none_from (Some x) e = cc

pub nothing : {X : Type 0} (xs : List X) → take 0 xs ≡ []
nothing [] = refl
nothing (x ∷ xs) = refl

pub length-map' : {X Y : Type 0} (f : X → Y) (xs : List X) → length (map f xs) ≡ length xs
length-map' f [] = refl
length-map' f (x ∷ xs) = ap suc (length-map' f xs)

pub read_map : {X Y : Type 0} (f : X → Y) (xs : List X) (i : ℕ) (x : X) → i < length xs → x ≡ get_or xs i x → f x ≡ get_or (map f xs) i (f x)
read_map f [] i x l e = absurd (let no : ⊥ = omega arith in no)
read_map f (y ∷ ys) zero x l e = ap f e
read_map f (y ∷ ys) (suc i) x l e = read_map f ys i x (omega arith) e

length-taken : {X : Type 0} (xs : List X) (i : ℕ) → i < length xs → length (take i xs) ≡ i
length-taken [] i l = absurd (let no : ⊥ = omega arith in no)
length-taken (x ∷ xs) zero l = refl
length-taken (x ∷ xs) (suc i) l = ap suc (length-taken xs i (omega arith))

-- ---- places

-- the place of a name after one more
pub place_more : (cats : List Name) (i : ℕ) (cat q : Name) → i < length cats → cat ≡ get_or cats i cat → place_of cat (take i cats) ≡ None
    → place_of q (take (i + 1) cats) ≡ cond (is_eq (name_cmp cat q)) (Some i) (place_of q (take i cats))
place_more cats i cat q l e new =
    ap (place_of q) (take_more cats i cat l ∙ ap (λ (z : Name). take i cats ++ z ∷ []) (sym e))
    ∙ place-push (take i cats) cat q (λ t. subst (λ (z : Name). place_of z (take i cats) ≡ None) (name_from_test cat q t) new)
    ∙ ap (λ (n : ℕ). cond (is_eq (name_cmp cat q)) (Some n) (place_of q (take i cats))) (length-taken cats i l)

pub none_own : (cats : List Name) → HaveOwnRules (take 0 cats)
none_own cats = subst (λ (us : List Name). HaveOwnRules us) (sym (nothing cats)) (record { once = none; named = λ r. elim r [ ] })

pub none_placed : (cats : List Name) (q : Name) → None ≡ place_of q (take 0 cats)
none_placed cats q = ap (place_of q) (sym (nothing cats))

module _ (cats : List Name) (i : ℕ) (cat : Name) (l : i < length cats) (e : cat ≡ get_or cats i cat) where
  pub own_more : HaveOwnRules (take i cats) → false ≡ same cat empty_item → place_of cat (take i cats) ≡ None → HaveOwnRules (take (i + 1) cats)
  own_more own t new = record {
    once = once_more cats i cat own.once l e (not_in cat (take i cats) new);
    named = none_more empty_item cat cats i l e (differ cat empty_item t) own.named;
  }

  pub places_more : (old new : Name → Option ℕ) (other : Option ℕ) (head : Name) → head ≡ cat → ((q : Name) → old q ≡ place_of q (take i cats)) → other ≡ old head → is_some other ≡ false
      → ((q : Name) → new q ≡ cond (is_eq (name_cmp head q)) (Some i) (old q)) → (q : Name) → new q ≡ place_of q (take (i + 1) cats)
  places_more old new other head h had o s updated q =
      updated q ∙ ap (λ (z : Name). cond (is_eq (name_cmp z q)) (Some i) (old q)) h ∙ ap (λ (p : Option ℕ). cond (is_eq (name_cmp cat q)) (Some i) p) (had q)
      ∙ sym (place_more cats i cat q l e (sym (had cat) ∙ ap old (sym h) ∙ sym o ∙ none_from other s))

  pub unplaced_head : (old : Name → Option ℕ) (other : Option ℕ) (head : Name) → head ≡ cat → ((q : Name) → old q ≡ place_of q (take i cats)) → other ≡ old head → is_some other ≡ false → place_of cat (take i cats) ≡ None
  unplaced_head old other head h had o s = sym (had cat) ∙ ap old (sym h) ∙ sym o ∙ none_from other s

  pub empty_head : true ≡ same cat empty_item → HaveOwnRules cats → ⊥
  empty_head t own = own.named (subst (λ (z : Name). In z cats) (same_text cat empty_item t) (stands cats i cat l e))

  pub second_head : (old : Name → Option ℕ) (other : Option ℕ) (head : Name) → head ≡ cat → ((q : Name) → old q ≡ place_of q (take i cats)) → other ≡ old head → is_some other ≡ true → Once cats → ⊥
  second_head old None head h had o s once = false≢true s
  second_head old (Some n) head h had o s once = twice cats i cat once l e (In_from_place cat (take i cats) n (sym (had cat) ∙ ap old (sym h) ∙ sym o))

  -- ---- forms

  is_some_cond : (b : Bool) (n : ℕ) (o : Option ℕ) → is_some (cond b (Some n) o) ≡ cond b true (is_some o)
  is_some_cond true n o = refl
  is_some_cond false n o = refl

  not_held : (old : Name → Bool) (form : Name) → form ≡ cat → ((q : Name) → old q ≡ is_some (place_of q (take i cats))) → true ≡ not (old form) → place_of cat (take i cats) ≡ None
  not_held old form h had a = none_from (place_of cat (take i cats)) (sym (had cat) ∙ ap old (sym h) ∙ flipped (old form) a)
    where
      flipped : (b : Bool) → true ≡ not b → b ≡ false
      flipped true e = cc
      flipped false e = refl

  pub form_once : (old : Name → Bool) (form : Name) → form ≡ cat → ((q : Name) → old q ≡ is_some (place_of q (take i cats))) → true ≡ not (old form) → Once (take i cats) → Once (take (i + 1) cats)
  form_once old form h had a once = once_more cats i cat once l e (not_in cat (take i cats) (not_held old form h had a))

  pub forms_more : (old new : Name → Bool) (form : Name) → form ≡ cat → ((q : Name) → old q ≡ is_some (place_of q (take i cats))) → true ≡ not (old form)
      → ((q : Name) → new q ≡ cond (is_eq (name_cmp form q)) true (old q)) → (q : Name) → new q ≡ is_some (place_of q (take (i + 1) cats))
  forms_more old new form h had a updated q =
      updated q ∙ ap (λ (z : Name). cond (is_eq (name_cmp z q)) true (old q)) h ∙ ap (λ (p : Bool). cond (is_eq (name_cmp cat q)) true p) (had q)
      ∙ sym (is_some_cond (is_eq (name_cmp cat q)) i (place_of q (take i cats))) ∙ ap is_some (sym (place_more cats i cat q l e (not_held old form h had a)))

  pub second_form : (old : Name → Bool) (form : Name) → form ≡ cat → ((q : Name) → old q ≡ is_some (place_of q (take i cats))) → false ≡ not (old form) → Once cats → ⊥
  second_form old form h had a once = found (place_of cat (take i cats)) refl
    where
      flipped : (b : Bool) → false ≡ not b → b ≡ true
      flipped true e = refl
      flipped false e = cc

      held : is_some (place_of cat (take i cats)) ≡ true
      held = sym (had cat) ∙ ap old (sym h) ∙ flipped (old form) a

      found : (o : Option ℕ) → place_of cat (take i cats) ≡ o → ⊥
      found None p = false≢true (sym (ap is_some p) ∙ held)
      found (Some n) p = twice cats i cat once l e (In_from_place cat (take i cats) n p)
