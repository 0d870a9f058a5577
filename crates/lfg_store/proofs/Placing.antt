-- The entries before and behind a place.
use Rattle.std.proofs.Common.{◌≡◌, ◌≢◌, ℕ, zero, suc, ◌+◌, ◌≤◌, ◌<◌, Bool, true, false, ◌||◌, ◌&&◌, List, [], ◌∷◌, ◌++◌, length, map, get_or, take, drop, slice_set, refl, sym, ◌∙◌, ap, subst, Less, Greater, arith, length-take, length-drop, Option, Some, None, cond}
use Rattle.std.specs.Prelude.{not, insert, remove}
use Rattle.std.proofs.lemmas.List.{take-append-drop, get_or-take, get_or-drop, map-append}
use Rattle.std.proofs.Math.Seq.{drop-cons}
use Rattle.std.specs.List.Sorted.{IsStrictlySortedBy}
use Rattle.lfg_terms.specs.Order.{fact_cmp}
use Rattle.lfg_terms.specs.declared.node.Fact.{Fact}
use Rattle.lfg_model.specs.Lists.{In, here, later}
use Rattle.lfg_model.proofs.ListLaws.{In-place, In-map, In-append_right}
use Rattle.lfg_context.specs.Seen.{Set}
use Rattle.lfg_context.specs.Sets.{Assignment, member}
use Rattle.lfg_store.specs.Facts.{Entries, facts_of, same_fact, context_of, HasMember, IsStore}
use Rattle.lfg_store.specs.Edits.{IsAt, IsGap, IsEdited}
use Rattle.lfg_store.specs.declared.edit.Edit.TheVariants.{Add, Remove}
use Rattle.lfg_store.proofs.Inserting.{greater_from_less, less_from_greater, same_self, same_at, around_before, around_behind}
use Rattle.lfg_store.proofs.Around.{widened, inserted, nothing_added, narrowed, dropped, nothing_removed}

set_parts : {X : Type 0} (xs : List X) (i : ℕ) (v : X) → i < length xs → slice_set xs i v ≡ take i xs ++ v ∷ drop (suc i) xs
set_parts [] i v h = absurd (omega arith)
set_parts (x ∷ xs) zero v h = refl
set_parts (x ∷ xs) (suc i) v h = ap (λ ys. x ∷ ys) (set_parts xs i v (omega arith))

at_parts : {X : Type 0} (xs : List X) (i : ℕ) (d : X) → i < length xs → xs ≡ take i xs ++ get_or xs i d ∷ drop (suc i) xs
at_parts xs i d h = sym (take-append-drop i xs) ∙ ap (λ ys. take i xs ++ ys) (drop-cons xs i d h)

In_front : {X : Type 0} (P : X → Type 0) (xs : List X) (i : ℕ) → i ≤ length xs → ((k : ℕ) (d : X) → k < i → P (get_or xs k d)) → (x : X) → In x (take i xs) → P x
In_front P xs i h each x w =
    let p = In-place w in
    let l : p.0 < i = omega (arith, length-take i xs, p.1) in
    subst P (sym (get_or-take i xs p.0 x l) ∙ p.2 x) (each p.0 x l)

In_back : {X : Type 0} (P : X → Type 0) (xs : List X) (i : ℕ) → i ≤ length xs → ((k : ℕ) (d : X) → i ≤ k → k < length xs → P (get_or xs k d)) → (x : X) → In x (drop i xs) → P x
In_back P xs i h each x w =
    let p = In-place w in
    subst P (sym (get_or-drop i xs p.0 x) ∙ p.2 x) (each (i + p.0) x (omega arith) (omega (arith, length-drop i xs, p.1)))

-- a look-up among other facts
past_context : (f : Fact) (front rest : Entries) → ((e : Fact × Set) → In e front → same_fact e.0 f ≡ false) → context_of (front ++ rest) f ≡ context_of rest f
past_context f [] rest other = refl
past_context f (e ∷ front) rest other =
    ap (λ b. cond b (Some e.1) (context_of (front ++ rest) f)) (other e here) ∙ past_context f front rest (λ d i. other d (later i))

none_context : (f : Fact) (es : Entries) → ((e : Fact × Set) → In e es → same_fact e.0 f ≡ false) → context_of es f ≡ None
none_context f [] other = refl
none_context f (e ∷ es) other = ap (λ b. cond b (Some e.1) (context_of es f)) (other e here) ∙ none_context f es (λ d i. other d (later i))

-- the context becomes the union, which has a member where the context has one
or_left : (a b : Bool) → a ≡ true → (a || b) ≡ true
or_left true b e = refl
or_left false b e = absurd (cc)

module _ (es : Entries) (f : Fact) (place : ℕ) (d : Fact × Set) (store : IsStore es) (at : IsAt es f place) where
  abbrev front : Entries
  front = take place es

  abbrev back : Entries
  back = drop (suc place) es

  abbrev context : Set
  context = (get_or es place d).1

  entry_is : get_or es place d ≡ (f, context)
  entry_is = ap (λ v. (v, context)) (at.same d)

  parts : es ≡ front ++ (f, context) ∷ back
  parts = at_parts es place d at.within ∙ ap (λ v. front ++ v ∷ back) entry_is

  parts_store : IsStore (front ++ (f, context) ∷ back)
  parts_store = subst IsStore parts store

  set_is : (z : Set) → slice_set es place (f, z) ≡ front ++ (f, z) ∷ back
  set_is z = set_parts es place (f, z) at.within

  ascends : IsStrictlySortedBy fact_cmp (facts_of front ++ f ∷ facts_of back)
  ascends = subst (IsStrictlySortedBy fact_cmp) (map-append (λ e. e.0) front ((f, context) ∷ back)) parts_store.ascends

  before : (e : Fact × Set) → In e front → fact_cmp f e.0 ≡ Greater
  before e i = greater_from_less f e.0 (around_before fact_cmp (facts_of front) (facts_of back) f ascends e.0 (In-map (λ v. v.0) i))

  behind : (e : Fact × Set) → In e back → fact_cmp f e.0 ≡ Less
  behind e i = around_behind fact_cmp (facts_of front) (facts_of back) f ascends e.0 (In-map (λ v. v.0) i)

  old_member : HasMember context
  old_member = parts_store.stands (f, context) (In-append_right front here)

  pub widened_at : (new : Entries) (z x : Set) → ((a : Assignment) → member z a ≡ (member context a || member x a)) → new ≡ slice_set es place (f, z) → IsEdited Add es f x new
  widened_at new z x m e =
      let P : Entries → Type 0 = λ v. IsEdited Add v f x new in
      let Q : Entries → Type 0 = λ v. IsEdited Add (front ++ (f, context) ∷ back) f x v in
      let some : HasMember z = record { assignment = old_member.assignment; has = m old_member.assignment ∙ or_left _ _ old_member.has } in
      subst P (sym parts) (subst Q (sym (e ∙ set_is z)) (widened f front back before behind context z x m parts_store some))

  pub narrowed_at : (new : Entries) (z x : Set) → ((a : Assignment) → member z a ≡ (member context a && not (member x a))) → HasMember z → new ≡ slice_set es place (f, z)
      → IsEdited Remove es f x new
  narrowed_at new z x m some e =
      let P : Entries → Type 0 = λ v. IsEdited Remove v f x new in
      let Q : Entries → Type 0 = λ v. IsEdited Remove (front ++ (f, context) ∷ back) f x v in
      subst P (sym parts) (subst Q (sym (e ∙ set_is z)) (narrowed f front back before behind context z x m parts_store some))

  pub dropped_at : (new : Entries) (z x : Set) → ((a : Assignment) → member z a ≡ (member context a && not (member x a))) → ((a : Assignment) → member z a ≡ false) → new ≡ remove es place
      → IsEdited Remove es f x new
  dropped_at new z x m none e =
      let P : Entries → Type 0 = λ v. IsEdited Remove v f x new in
      let Q : Entries → Type 0 = λ v. IsEdited Remove (front ++ (f, context) ∷ back) f x v in
      subst P (sym parts) (subst Q (sym e) (dropped f front back before behind context x (λ a. sym (m a) ∙ none a) parts_store))

  -- what a look-up finds
  pub found_at : context_of es f ≡ Some context
  found_at =
      ap (λ v. context_of v f) parts ∙ past_context f front ((f, context) ∷ back) (λ e i. other e.0 (before e i))
      ∙ ap (λ b. cond b (Some context) (context_of back f)) (same_self f)
    where
      other : (g : Fact) → fact_cmp f g ≡ Greater → same_fact g f ≡ false
      other g h = same_at g f Less (less_from_greater g f h)

module _ (es : Entries) (f : Fact) (place : ℕ) (store : IsStore es) (gap : IsGap es f place) where
  abbrev gap_front : Entries
  gap_front = take place es

  abbrev gap_back : Entries
  gap_back = drop place es

  gap_parts : es ≡ gap_front ++ gap_back
  gap_parts = sym (take-append-drop place es)

  gap_store : IsStore (gap_front ++ gap_back)
  gap_store = subst IsStore gap_parts store

  gap_before : (e : Fact × Set) → In e gap_front → fact_cmp f e.0 ≡ Greater
  gap_before e i = greater_from_less f e.0 (In_front (λ v. fact_cmp v.0 f ≡ Less) es place gap.within gap.before e i)

  gap_behind : (e : Fact × Set) → In e gap_back → fact_cmp f e.0 ≡ Less
  gap_behind e i = less_from_greater f e.0 (In_back (λ v. fact_cmp v.0 f ≡ Greater) es place gap.within gap.behind e i)

  pub inserted_at : (new : Entries) (x z : Set) → z ≡ x → HasMember x → length es < 4294967295 → new ≡ insert es place (f, z) → IsEdited Add es f x new
  inserted_at new x z same some room e =
      let P : Entries → Type 0 = λ v. IsEdited Add v f x new in
      let Q : Entries → Type 0 = λ v. IsEdited Add (gap_front ++ gap_back) f x v in
      let is : new ≡ gap_front ++ (f, x) ∷ gap_back = e ∙ ap (λ v. gap_front ++ (f, v) ∷ gap_back) same in
      subst P (sym gap_parts) (subst Q (sym is) (inserted f gap_front gap_back gap_before gap_behind x some (omega (arith, room, ap length gap_parts)) gap_store))

  pub nothing_added_at : (new : Entries) (x : Set) → ((a : Assignment) → member x a ≡ false) → new ≡ es → IsEdited Add es f x new
  nothing_added_at new x none e =
      let P : Entries → Type 0 = λ v. IsEdited Add v f x v in
      let Q : Entries → Type 0 = λ v. IsEdited Add es f x v in
      subst Q (sym e) (subst P (sym gap_parts) (nothing_added f gap_front gap_back gap_before gap_behind x none gap_store))

  pub nothing_removed_at : (new : Entries) (x : Set) → new ≡ es → IsEdited Remove es f x new
  nothing_removed_at new x e =
      let P : Entries → Type 0 = λ v. IsEdited Remove v f x v in
      let Q : Entries → Type 0 = λ v. IsEdited Remove es f x v in
      subst Q (sym e) (subst P (sym gap_parts) (nothing_removed f gap_front gap_back gap_before gap_behind x gap_store))

  -- a look-up finds nothing
  pub missing_at : context_of es f ≡ None
  missing_at =
      ap (λ v. context_of v f) gap_parts ∙ past_context f gap_front gap_back (λ e i. same_at e.0 f Less (less_from_greater e.0 f (gap_before e i)))
      ∙ none_context f gap_back (λ e i. same_at e.0 f Greater (greater_from_less e.0 f (gap_behind e i)))

-- the same from what the code reads at the place
module _ (es : Entries) (f g : Fact) (place : ℕ) (d : Fact × Set) (x z : Set) (new : Entries)
    (store : IsStore es) (at : IsAt es f place) (read : d ≡ get_or es place d) (copied : g ≡ f) where
  put : new ≡ slice_set es place (g, z) → new ≡ slice_set es place (f, z)
  put e = e ∙ ap (λ v. slice_set es place (v, z)) copied

  pub is_widened : ((a : Assignment) → member z a ≡ (member d.1 a || member x a)) → new ≡ slice_set es place (g, z) → IsEdited Add es f x new
  is_widened m e = widened_at es f place d store at new z x (λ a. m a ∙ ap (λ v. member v.1 a || member x a) read) (put e)

  pub is_narrowed : ((a : Assignment) → member z a ≡ (member d.1 a && not (member x a))) → HasMember z → new ≡ slice_set es place (g, z) → IsEdited Remove es f x new
  is_narrowed m some e = narrowed_at es f place d store at new z x (λ a. m a ∙ ap (λ v. member v.1 a && not (member x a)) read) some (put e)

  pub is_dropped : ((a : Assignment) → member z a ≡ (member d.1 a && not (member x a))) → ((a : Assignment) → member z a ≡ false) → new ≡ remove es place → IsEdited Remove es f x new
  is_dropped m none e = dropped_at es f place d store at new z x (λ a. m a ∙ ap (λ v. member v.1 a && not (member x a)) read) none e
