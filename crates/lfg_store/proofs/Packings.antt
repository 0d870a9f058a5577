-- Packed values while contexts grow and stores change. Crates above name these lemmas in
-- `using(lfg_store::proofs::Packings::packing)`.
use Rattle.std.proofs.Common.{◌≡◌, ◌≢◌, ℕ, ◌≤◌, Bool, true, false, cond, List, [], ◌∷◌, length, refl, sym, ◌∙◌, ap, subst, inl, inr, ◌⊎◌, Less, Equal}
use Rattle.std.specs.Prelude.{◌↔◌, not, filter}
use Rattle.std.specs.List.Sorted.{IsStrictlySortedBy}
use Rattle.lfg_terms.specs.declared.choice.Choice.{Choice}
use Rattle.lfg_terms.specs.Order.{fact_cmp}
use Rattle.lfg_terms.specs.OrderLaws.{fact_cmp_total}
use Rattle.lfg_terms.specs.declared.node.Fact.{Fact}
use Rattle.lfg_model.specs.Lists.{In, here, later, Lists}
use Rattle.lfg_model.proofs.ListLaws.{In-nil, In-cons_cases, In-map}
use Rattle.lfg_model.proofs.Ascending.{all_in, same_members, once_from_total}
use Rattle.lfg_context.specs.Cubes.{set_at}
use Rattle.lfg_context.specs.Seen.{Set, Known}
use Rattle.lfg_context.specs.Sets.{Assignment, member, arity_of, IsMade, IsGrown, HasSamePicks, HasPicksOf, DependsOnFirst}
use Rattle.lfg_context.proofs.Growing.{made_grown, are_made_grown, picks_kept}
use Rattle.lfg_store.specs.Facts.{Entries, facts_at, facts_of, same_fact, with_fact, without_fact, context_of, IsStore}
use Rattle.lfg_store.specs.Packing.{AreMadeBy, DependOnFirst, LieIn, ArePacked, IsPacked}
use Rattle.lfg_store.proofs.Held.{held_from, In-held}
use Rattle.lfg_store.proofs.Inserting.{equal_self}
use Rattle.lfg_store.proofs.Collecting.{In-with}

-- what a test keeps stood before
In_from_filter : {X : Type 0} (p : X → Bool) (xs : List X) {x : X} → In x (filter p xs) → In x xs
In_from_filter p [] i = In-nil i
In_from_filter {X} p (y ∷ xs) {x} i = by_test (p y) (λ j. In_from_filter p xs j) i
  where
    by_test : (b : Bool) → (In x (filter p xs) → In x xs) → In x (cond b (y ∷ filter p xs) (filter p xs)) → In x (y ∷ xs)
    by_test true ih j = elim (In-cons_cases j) [ inl e ↦ subst (λ (v : X). In v (y ∷ xs)) (sym e) here | inr k ↦ later (ih k) ]
    by_test false ih j = later (ih j)

-- a fact has one entry
self_not_less : (f : Fact) {P : Type 0} → fact_cmp f f ≡ Less → P
self_not_less f less = let e : Less ≡ Equal = sym less ∙ equal_self f in absurd (cc)

pub one_entry : (es : Entries) (e d : Fact × Set) → IsStrictlySortedBy fact_cmp (facts_of es) → In e es → In d es → e.0 ≡ d.0 → e ≡ d
unfolding IsStrictlySortedBy
one_entry (x ∷ es) e d s here here q = refl
one_entry (x ∷ es) e d s here (later j) q =
    let P : Fact → Type 0 = λ v. fact_cmp x.0 v ≡ Less in self_not_less x.0 (subst P (sym q) (all_in P s.0 (In-map (λ (v : Fact × Set). v.0) j)))
one_entry (x ∷ es) e d s (later i) here q =
    let P : Fact → Type 0 = λ v. fact_cmp x.0 v ≡ Less in self_not_less x.0 (subst P q (all_in P s.0 (In-map (λ (v : Fact × Set). v.0) i)))
one_entry (x ∷ es) e d s (later i) (later j) q = one_entry es e d s.1 i j q
one_entry [] e d s i j q = In-nil i

-- a fact stands exactly at the assignments of its context
pub stands_within : (es : Entries) (e : Fact × Set) (a : Assignment) → IsStore es → In e es → In e.0 (facts_at es a) → member e.1 a ≡ true
stands_within es e a store i h =
    let s = held_from es a e.0 h in
    let same : s.0 ≡ e = one_entry es s.0 e store.ascends s.1 i s.2 in
    let P : Fact × Set → Type 0 = λ v. member v.1 a ≡ true in
    subst P same s.3

both_ways : (x y : Bool) → (x ≡ true → y ≡ true) → (y ≡ true → x ≡ true) → x ≡ y
both_ways true true f g = refl
both_ways true false f g = sym (f refl)
both_ways false true f g = g refl
both_ways false false f g = refl

-- where the facts at two assignments are the same, so is membership in each context
same_members_at : (es : Entries) (a b : Assignment) → IsStore es → facts_at es a ≡ facts_at es b → (e : Fact × Set) → In e es → member e.1 a ≡ member e.1 b
same_members_at es a b store same e i =
    let P : List Fact → Type 0 = λ v. In e.0 v in
    both_ways (member e.1 a) (member e.1 b)
    (λ m. stands_within es e b store i (subst P same (In-held es a e i m)))
    (λ m. stands_within es e a store i (subst P (sym same) (In-held es b e i m)))

pub depend_from_facts : (n : ℕ) (es : Entries) → IsStore es → ((c : ℕ) → n ≤ c → (a : Assignment) (v : ℕ) → facts_at es a ≡ facts_at es (set_at a c v)) → DependOnFirst n es
depend_from_facts n es store same = record { each = λ e i. record { blind = λ c le a v. same_members_at es a (set_at a c v) store (same c le a v) e i } }

pub facts_from_depend : (n : ℕ) (es : Entries) → DependOnFirst n es → (c : ℕ) → n ≤ c → (a : Assignment) (v : ℕ) → facts_at es a ≡ facts_at es (set_at a c v)
facts_from_depend n [] d c le a v = refl
facts_from_depend n (e ∷ es) d c le a v =
    let rest : facts_at es a ≡ facts_at es (set_at a c v) = facts_from_depend n es (record { each = λ x i. d.each x (later i) }) c le a v in
    ap (λ b. cond b (e.0 ∷ facts_at es a) (facts_at es a)) ((d.each e here).blind c le a v)
    ∙ ap (λ fs. cond (member e.1 (set_at a c v)) (e.0 ∷ fs) fs) rest

-- what the store's facts stand on, after a fact was added or removed, or the store was made
pub edited_depend : (n : ℕ) (old new : Entries) (x : Set) (edited : List Fact → List Fact) → IsStore new → DependOnFirst n old → DependsOnFirst n x
    → ((a : Assignment) → facts_at new a ≡ cond (member x a) (edited (facts_at old a)) (facts_at old a)) → DependOnFirst n new
edited_depend n old new x edited store d dx is = depend_from_facts n new store (λ c le a v.
    is a
    ∙ ap (λ b. cond b (edited (facts_at old a)) (facts_at old a)) (dx.blind c le a v)
    ∙ ap (λ fs. cond (member x (set_at a c v)) (edited fs) fs) (facts_from_depend n old d c le a v)
    ∙ sym (is (set_at a c v)))

pub collected_depend : (n : ℕ) (es new : Entries) → IsStore new → DependOnFirst n es → ((a : Assignment) → Lists fact_cmp (λ f. In f (facts_at es a)) (facts_at new a)) → DependOnFirst n new
collected_depend n es new store d is = depend_from_facts n new store (λ c le a v.
    let P : Fact → List Fact → Type 0 = λ f fs. In f fs in
    let same : facts_at es a ≡ facts_at es (set_at a c v) = facts_from_depend n es d c le a v in
    same_members fact_cmp (once_from_total fact_cmp_total) (facts_at new a) (facts_at new (set_at a c v)) (is a).ascends (is (set_at a c v)).ascends
    (λ f i. ((is (set_at a c v)).exact f).1 (subst (P f) same (((is a).exact f).0 i)))
    (λ f i. ((is a).exact f).1 (subst (P f) (sym same) (((is (set_at a c v)).exact f).0 i))))

-- where the facts of a store stand
pub lies_from_facts : (good : Set) (es : Entries) → ((a : Assignment) (f : Fact) → In f (facts_at es a) → member good a ≡ true) → LieIn good es
lies_from_facts good es h = record { each = λ e i a m. h a e.0 (In-held es a e i m) }

pub facts_from_lies : (good : Set) (es : Entries) (a : Assignment) (f : Fact) → LieIn good es → In f (facts_at es a) → member good a ≡ true
facts_from_lies good es a f l i = let s = held_from es a f i in l.each s.0 s.1 a s.3

pub added_lies : (good : Set) (old new : Entries) (f : Fact) (x : Set) → LieIn good old → ((a : Assignment) → member x a ≡ true → member good a ≡ true)
    → ((a : Assignment) → facts_at new a ≡ cond (member x a) (with_fact f (facts_at old a)) (facts_at old a)) → LieIn good new
added_lies good old new f x l within is = lies_from_facts good new (λ a g i. by_member a g (member x a) refl (let P : List Fact → Type 0 = λ fs. In g fs in subst P (is a) i))
  where
    by_member : (a : Assignment) (g : Fact) (b : Bool) → member x a ≡ b → In g (cond b (with_fact f (facts_at old a)) (facts_at old a)) → member good a ≡ true
    by_member a g true m i = within a m
    by_member a g false m i = facts_from_lies good old a g l i

pub removed_lies : (good : Set) (old new : Entries) (f : Fact) (x : Set) → LieIn good old
    → ((a : Assignment) → facts_at new a ≡ cond (member x a) (without_fact f (facts_at old a)) (facts_at old a)) → LieIn good new
removed_lies good old new f x l is = lies_from_facts good new (λ a g i. by_member a g (member x a) (let P : List Fact → Type 0 = λ fs. In g fs in subst P (is a) i))
  where
    by_member : (a : Assignment) (g : Fact) (b : Bool) → In g (cond b (without_fact f (facts_at old a)) (facts_at old a)) → member good a ≡ true
    by_member a g true i = facts_from_lies good old a g l (In_from_filter (λ h. not (same_fact f h)) (facts_at old a) i)
    by_member a g false i = facts_from_lies good old a g l i

pub collected_lies : (good : Set) (es new : Entries) → LieIn good es → ((a : Assignment) → Lists fact_cmp (λ f. In f (facts_at es a)) (facts_at new a)) → LieIn good new
collected_lies good es new l is = lies_from_facts good new (λ a f i. facts_from_lies good es a f l (((is a).exact f).0 i))

-- a packed value, some calls later
pub packed_entries_grown : {k l : Known} {space : List Choice} {good : Set} {es : Entries} → IsGrown k l → ArePacked k space good es → ArePacked l space good es
packed_entries_grown {k} {l} {space} {good} {es} g p = record { made = are_made_grown g p.made; depend = p.depend; within = p.within }

pub packed_grown : {k l : Known} {space : List Choice} {good : Set} {tree facts : Entries} → IsGrown k l → HasSamePicks k l → IsPacked k space good tree facts → IsPacked l space good tree facts
packed_grown {k} {l} {space} {good} {tree} {facts} g s p = record {
  good_made = made_grown g p.good_made;
  good_depends = p.good_depends;
  tree_packed = packed_entries_grown g p.tree_packed;
  facts_packed = packed_entries_grown g p.facts_packed;
  picks = picks_kept s p.picks;
  behind = λ c le some. s.arities c ∙ p.behind c le (λ none. some (s.arities c ∙ none));
}

pub ruleset packing = (packed_grown, packed_entries_grown)
