-- Entries round the place of a fact.
use Rattle.std.proofs.Common.{◌≡◌, ◌≢◌, ℕ, suc, ◌+◌, ◌≤◌, ◌<◌, Bool, true, false, cond, ◌||◌, ◌&&◌, List, [], ◌∷◌, ◌++◌, length, map, refl, sym, ◌∙◌, ap, subst, inl, inr, ◌⊎◌, Less, Greater, arith, length-append, Option, Some, None}
use Rattle.std.specs.Prelude.{not}
use Rattle.std.proofs.lemmas.List.{map-append}
use Rattle.std.proofs.lemmas.List.Elements.{filter-append}
use Rattle.std.specs.List.Sorted.{IsStrictlySortedBy}
use Rattle.lfg_terms.specs.Order.{fact_cmp}
use Rattle.lfg_terms.specs.declared.node.Fact.{Fact}
use Rattle.lfg_model.specs.Lists.{In, here, later}
use Rattle.lfg_model.proofs.ListLaws.{In-cons_cases, In-append_cases, In-append_left, In-append_right, In_from_map}
use Rattle.lfg_context.specs.Seen.{Set}
use Rattle.lfg_context.specs.Sets.{Assignment, member}
use Rattle.lfg_store.specs.Facts.{Entries, facts_at, facts_of, same_fact, context_of, with_fact, without_fact, HasMember, IsStore}
use Rattle.lfg_store.specs.Edits.{edited, IsEdited}
use Rattle.lfg_store.specs.declared.edit.Edit.{Edit}
use Rattle.lfg_store.specs.declared.edit.Edit.TheVariants.{Add, Remove}
use Rattle.lfg_store.proofs.Held.{held-append, held_from}
use Rattle.lfg_store.proofs.Inserting.{greater_from_less, less_from_greater, apart, AllBefore, AllBehind, with_past, with_first, with_same, without_absent, without_first, absent_before, absent_behind, around_before, around_behind, ascends_without, ascends_with}

-- the contexts of other facts
past_same : (front xs ys : Entries) (g : Fact) → context_of xs g ≡ context_of ys g → context_of (front ++ xs) g ≡ context_of (front ++ ys) g
past_same [] xs ys g e = e
past_same (d ∷ front) xs ys g e = ap (λ v. cond (same_fact d.0 g) (Some d.1) v) (past_same front xs ys g e)

other_context : (f g : Fact) (y : Set) (es : Entries) → g ≢ f → context_of ((f, y) ∷ es) g ≡ context_of es g
other_context f g y es other = ap (λ b. cond b (Some y) (context_of es g)) (apart f g (λ e. other (sym e)))

module _ (f : Fact) (front back : Entries)
    (before : (e : Fact × Set) → In e front → fact_cmp f e.0 ≡ Greater)
    (behind : (e : Fact × Set) → In e back → fact_cmp f e.0 ≡ Less) where
  abbrev without_it : Entries
  without_it = front ++ back

  abbrev with_set : Set → Entries
  with_set y = front ++ (f, y) ∷ back

  module _ (a : Assignment) where
    abbrev Front : List Fact
    Front = facts_at front a

    abbrev Back : List Fact
    Back = facts_at back a

    front_before : AllBefore f Front
    front_before g i = let s = held_from front a g i in let P : Fact → Type 0 = λ v. fact_cmp f v ≡ Greater in subst P s.2 (before s.0 s.1)

    back_behind : AllBehind f Back
    back_behind g i = let s = held_from back a g i in let P : Fact → Type 0 = λ v. fact_cmp f v ≡ Less in subst P s.2 (behind s.0 s.1)

    abbrev here_at : Bool → List Fact
    here_at b = cond b (f ∷ Back) Back

    at_with : (y : Set) → facts_at (with_set y) a ≡ Front ++ here_at (member y a)
    at_with y = held-append front ((f, y) ∷ back) a

    at_without : facts_at without_it a ≡ Front ++ Back
    at_without = held-append front back a

    with_here : (b : Bool) → with_fact f (Front ++ here_at b) ≡ Front ++ f ∷ Back
    with_here true = with_past f Front (f ∷ Back) front_before ∙ ap (λ v. Front ++ v) (with_same f Back)
    with_here false = with_past f Front Back front_before ∙ ap (λ v. Front ++ v) (with_first f Back back_behind)

    front_kept : without_fact f Front ≡ Front
    front_kept = without_absent f Front (absent_before f Front front_before)

    back_kept : without_fact f Back ≡ Back
    back_kept = without_absent f Back (absent_behind f Back back_behind)

    without_here : (b : Bool) → without_fact f (Front ++ here_at b) ≡ Front ++ Back
    without_here true =
        filter-append (λ g. not (same_fact f g)) Front (f ∷ Back)
        ∙ ap (λ v. v ++ without_fact f (f ∷ Back)) front_kept ∙ ap (λ v. Front ++ v) (without_first f Back ∙ back_kept)
    without_here false =
        filter-append (λ g. not (same_fact f g)) Front Back
        ∙ ap (λ v. v ++ without_fact f Back) front_kept ∙ ap (λ v. Front ++ v) back_kept

    -- the facts after an edit, by whether the sets have the assignment
    abbrev Edited : Edit → Bool → List Fact → List Fact → Type 0
    Edited edit b old new = new ≡ cond b (edited edit f old) old

    add_cases : (b m n : Bool) → n ≡ (m || b) → Edited Add b (Front ++ here_at m) (Front ++ here_at n)
    add_cases true true n e = ap (λ v. Front ++ here_at v) e ∙ sym (with_here true)
    add_cases true false n e = ap (λ v. Front ++ here_at v) e ∙ sym (with_here false)
    add_cases false true n e = ap (λ v. Front ++ here_at v) e
    add_cases false false n e = ap (λ v. Front ++ here_at v) e

    remove_cases : (b m n : Bool) → n ≡ (m && not b) → Edited Remove b (Front ++ here_at m) (Front ++ here_at n)
    remove_cases true true n e = ap (λ v. Front ++ here_at v) e ∙ sym (without_here true)
    remove_cases true false n e = ap (λ v. Front ++ here_at v) e ∙ sym (without_here false)
    remove_cases false true n e = ap (λ v. Front ++ here_at v) e
    remove_cases false false n e = ap (λ v. Front ++ here_at v) e

    edited_at : (edit : Edit) (b : Bool) (old new o n : List Fact) → old ≡ o → new ≡ n → Edited edit b o n → Edited edit b old new
    edited_at edit b old new o n p q h = q ∙ h ∙ ap (λ v. cond b (edited edit f v) v) (sym p)

    pub widened_facts : (y z x : Set) → member z a ≡ (member y a || member x a) → Edited Add (member x a) (facts_at (with_set y) a) (facts_at (with_set z) a)
    widened_facts y z x e = edited_at Add (member x a) _ _ _ _ (at_with y) (at_with z) (add_cases (member x a) (member y a) (member z a) e)

    pub inserted_facts : (x : Set) → Edited Add (member x a) (facts_at without_it a) (facts_at (with_set x) a)
    inserted_facts x = edited_at Add (member x a) _ _ _ _ at_without (at_with x) (add_cases (member x a) false (member x a) refl)

    pub narrowed_facts : (y z x : Set) → member z a ≡ (member y a && not (member x a)) → Edited Remove (member x a) (facts_at (with_set y) a) (facts_at (with_set z) a)
    narrowed_facts y z x e = edited_at Remove (member x a) _ _ _ _ (at_with y) (at_with z) (remove_cases (member x a) (member y a) (member z a) e)

    pub dropped_facts : (y x : Set) → (member y a && not (member x a)) ≡ false → Edited Remove (member x a) (facts_at (with_set y) a) (facts_at without_it a)
    dropped_facts y x e = edited_at Remove (member x a) _ _ _ _ (at_with y) at_without (remove_cases (member x a) (member y a) false (sym e))

    pub kept_facts : (x : Set) → Edited Remove (member x a) (facts_at without_it a) (facts_at without_it a)
    kept_facts x = edited_at Remove (member x a) _ _ _ _ at_without at_without (remove_cases (member x a) false false refl)

    pub absent_facts : (x : Set) → member x a ≡ false → Edited Add (member x a) (facts_at without_it a) (facts_at without_it a)
    absent_facts x e = ap (λ b. cond b (with_fact f (facts_at without_it a)) (facts_at without_it a)) (sym e)

  -- the maps
  same_order : (y z : Set) → facts_of (with_set y) ≡ facts_of (with_set z)
  same_order y z = map-append (λ e. e.0) front ((f, y) ∷ back) ∙ sym (map-append (λ e. e.0) front ((f, z) ∷ back))

  pub set_store : (y z : Set) → HasMember z → IsStore (with_set y) → IsStore (with_set z)
  set_store y z some s = record {
    ascends = subst (IsStrictlySortedBy fact_cmp) (same_order y z) s.ascends;
    stands = λ e i. by_case e (In-append_cases front ((f, z) ∷ back) i);
    room = omega (arith, s.room, length-append front ((f, y) ∷ back), length-append front ((f, z) ∷ back));
  }
    where
      by_last : (e : Fact × Set) → (e ≡ (f, z)) ⊎ In e back → HasMember e.1
      by_last e (inl same) = let P : Fact × Set → Type 0 = λ v. HasMember v.1 in subst P (sym same) some
      by_last e (inr i) = s.stands e (In-append_right front (later i))

      by_case : (e : Fact × Set) → In e front ⊎ In e ((f, z) ∷ back) → HasMember e.1
      by_case e (inl i) = s.stands e (In-append_left ((f, y) ∷ back) i)
      by_case e (inr i) = by_last e (In-cons_cases i)

  pub more_store : (x : Set) → HasMember x → length without_it < 4294967295 → IsStore without_it → IsStore (with_set x)
  more_store x some room s = record {
    ascends = subst (IsStrictlySortedBy fact_cmp) (sym (map-append (λ e. e.0) front ((f, x) ∷ back)))
        (ascends_with fact_cmp (facts_of front) (facts_of back) f (subst (IsStrictlySortedBy fact_cmp) (map-append (λ e. e.0) front back) s.ascends) less more);
    stands = λ e i. by_case e (In-append_cases front ((f, x) ∷ back) i);
    room = omega (arith, room, length-append front back, length-append front ((f, x) ∷ back));
  }
    where
      less : (g : Fact) → In g (facts_of front) → fact_cmp g f ≡ Less
      less g i = let s = In_from_map (λ (e : Fact × Set). e.0) front i in let P : Fact → Type 0 = λ v. fact_cmp v f ≡ Less in subst P s.2 (less_from_greater s.0.0 f (before s.0 s.1))

      more : (g : Fact) → In g (facts_of back) → fact_cmp f g ≡ Less
      more g i = let s = In_from_map (λ (e : Fact × Set). e.0) back i in let P : Fact → Type 0 = λ v. fact_cmp f v ≡ Less in subst P s.2 (behind s.0 s.1)

      by_last : (e : Fact × Set) → (e ≡ (f, x)) ⊎ In e back → HasMember e.1
      by_last e (inl same) = let P : Fact × Set → Type 0 = λ v. HasMember v.1 in subst P (sym same) some
      by_last e (inr i) = s.stands e (In-append_right front i)

      by_case : (e : Fact × Set) → In e front ⊎ In e ((f, x) ∷ back) → HasMember e.1
      by_case e (inl i) = s.stands e (In-append_left back i)
      by_case e (inr i) = by_last e (In-cons_cases i)

  pub less_store : (y : Set) → IsStore (with_set y) → IsStore without_it
  less_store y s = record {
    ascends = subst (IsStrictlySortedBy fact_cmp) (sym (map-append (λ e. e.0) front back))
        (ascends_without fact_cmp (facts_of front) (facts_of back) f (subst (IsStrictlySortedBy fact_cmp) (map-append (λ e. e.0) front ((f, y) ∷ back)) s.ascends));
    stands = λ e i. by_case e (In-append_cases front back i);
    room = omega (arith, s.room, length-append front back, length-append front ((f, y) ∷ back));
  }
    where
      by_case : (e : Fact × Set) → In e front ⊎ In e back → HasMember e.1
      by_case e (inl i) = s.stands e (In-append_left ((f, y) ∷ back) i)
      by_case e (inr i) = s.stands e (In-append_right front (later i))

  -- the edits as a whole
  pub widened : (y z x : Set) → ((a : Assignment) → member z a ≡ (member y a || member x a)) → IsStore (with_set y) → HasMember z → IsEdited Add (with_set y) f x (with_set z)
  widened y z x e s some = record {
    facts = λ a. widened_facts a y z x (e a);
    others = λ g other. past_same front ((f, z) ∷ back) ((f, y) ∷ back) g (other_context f g z back other ∙ sym (other_context f g y back other));
    store = set_store y z some s;
    growth = omega (arith, length-append front ((f, y) ∷ back), length-append front ((f, z) ∷ back));
  }

  pub inserted : (x : Set) → HasMember x → length without_it < 4294967295 → IsStore without_it → IsEdited Add without_it f x (with_set x)
  inserted x some room s = record {
    facts = λ a. inserted_facts a x;
    others = λ g other. past_same front ((f, x) ∷ back) back g (other_context f g x back other);
    store = more_store x some room s;
    growth = omega (arith, length-append front back, length-append front ((f, x) ∷ back));
  }

  pub nothing_added : (x : Set) → ((a : Assignment) → member x a ≡ false) → IsStore without_it → IsEdited Add without_it f x without_it
  nothing_added x none s = record {
    facts = λ a. absent_facts a x (none a);
    others = λ g other. refl;
    store = s;
    growth = omega arith;
  }

  pub narrowed : (y z x : Set) → ((a : Assignment) → member z a ≡ (member y a && not (member x a))) → IsStore (with_set y) → HasMember z → IsEdited Remove (with_set y) f x (with_set z)
  narrowed y z x e s some = record {
    facts = λ a. narrowed_facts a y z x (e a);
    others = λ g other. past_same front ((f, z) ∷ back) ((f, y) ∷ back) g (other_context f g z back other ∙ sym (other_context f g y back other));
    store = set_store y z some s;
    growth = omega (arith, length-append front ((f, y) ∷ back), length-append front ((f, z) ∷ back));
  }

  pub dropped : (y x : Set) → ((a : Assignment) → (member y a && not (member x a)) ≡ false) → IsStore (with_set y) → IsEdited Remove (with_set y) f x without_it
  dropped y x none s = record {
    facts = λ a. dropped_facts a y x (none a);
    others = λ g other. past_same front back ((f, y) ∷ back) g (sym (other_context f g y back other));
    store = less_store y s;
    growth = omega (arith, length-append front back, length-append front ((f, y) ∷ back));
  }

  pub nothing_removed : (x : Set) → IsStore without_it → IsEdited Remove without_it f x without_it
  nothing_removed x s = record {
    facts = λ a. kept_facts a x;
    others = λ g other. refl;
    store = s;
    growth = omega arith;
  }
