use Rattle.std.proofs.Common.{◌≡◌, ◌∙◌, ◌<◌, ◌⊎◌, inl, inr, ◌++◌, ◌∷◌, [], ℕ, List, length, get_or, sym, subst, arith}
use Rattle.lfg_model.specs.Lists.{In}
use Rattle.lfg_model.proofs.ListLaws.{In-at, In-push_cases}
use Rattle.lfg_context.specs.Seen.{Set, Known}
use Rattle.lfg_context.specs.Sets.{arity_of, IsMade, AreMade, DependsOnFirst}
use Rattle.lfg_context.proofs.Growing.{are_made_push}
use Rattle.lfg_context.proofs.Depending.{first_before, first_within, arity_in_space, depends_child}
use Rattle.lfg_context.proofs.tests.nodes.Goals as goal

depends_at : (n : ℕ) (xs : List Set) (i : ℕ) (x y : Set) → ((z : Set) → In z xs → DependsOnFirst n z) → i < length xs → x ≡ get_or xs i x → y ≡ x → DependsOnFirst n y
depends_at n xs i x y each h e same = let P : Set → Type 0 = λ v. DependsOnFirst n v in subst P (sym (same ∙ e)) (each (get_or xs i x) (In-at xs i x h))

pub arity-alternative-end-requires : goal.arity-alternative-end-requires
arity-alternative-end-requires c = first_before (depends_at _ c.loop-place.met.items c.loop-place.place c.index.result.now c.in_ok-here.here c.loop-place.invariant.depends (omega (arith, c.loop-place.met.ok.0)) c.index.ensures c.in_ok-here.ensures) c.in-Some.ensures.some

pub child-requires-clause-alternative_in : goal.child-requires-clause-alternative_in
child-requires-clause-alternative_in c =
    let here = depends_at _ c.loop-place.met.items c.loop-place.place c.index.result.now c.in_ok-here.here c.loop-place.invariant.depends (omega (arith, c.loop-place.met.ok.0)) c.index.ensures c.in_ok-here.ensures in
    let choice = first_before here c.in-Some.ensures.some in
    let same = arity_in_space c.in-Some.choice c.requires.picks choice c.in-Some.ensures.picked in
    first_within c.args.contexts.now c.loop-alternative.alternative c.in-Some.ensures.some (omega (arith, same, c.arity-alternative-end.ensures.value))

grown : (k : Known) (n : ℕ) (xs ys : List Set) (z : Set) → AreMade k (λ x. x) xs → ((x : Set) → In x xs → DependsOnFirst n x) → IsMade k z → DependsOnFirst n z → (ys ≡ xs) ⊎ (ys ≡ xs ++ z ∷ [])
    → AreMade k (λ x. x) ys × ((x : Set) → In x ys → DependsOnFirst n x)
grown k n xs ys z made depends z_made z_depends (inl same) =
    let P : List Set → Type 0 = λ v. AreMade k (λ x. x) v × ((x : Set) → In x v → DependsOnFirst n x) in
    subst P (sym same) (made, depends)
grown k n xs ys z made depends z_made z_depends (inr more) =
    let P : List Set → Type 0 = λ v. AreMade k (λ x. x) v × ((x : Set) → In x v → DependsOnFirst n x) in
    subst P (sym more) (
      are_made_push made z_made,
      λ x h. elim (In-push_cases xs z h) [
        | inl old ↦ depends x old
        | inr new ↦ (let Q : Set → Type 0 = λ v. DependsOnFirst n v in subst Q (sym new) z_depends)
      ],
    )

pub loop-alternative-preserved : goal.loop-alternative-preserved
loop-alternative-preserved c =
    let here = depends_at _ c.loop-place.met.items c.loop-place.place c.index.result.now c.in_ok-here.here c.loop-place.invariant.depends (omega (arith, c.loop-place.met.ok.0)) c.index.ensures c.in_ok-here.ensures in
    let child = depends_child c.in-Some.choice c.loop-alternative.alternative here (c.in_ok-child.ensures.members c.in-Some.choice c.in-Some.ensures.some) in
    let both = grown c.args.contexts.now (length c.args.space.now) c.loop-alternative.met.items c.add_new.new.sets.items c.in_ok-child.child c.loop-alternative.invariant.made c.loop-alternative.invariant.depends c.in_ok-child.ensures.made child c.in_ok-add_new.ensures in
    record { made = both.0; depends = both.1 }
