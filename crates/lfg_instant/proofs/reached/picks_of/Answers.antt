use Rattle.std.proofs.Common.{◌≡◌, List, [], ◌∷◌, ◌++◌, sym, subst, ap, ◌∙◌, inl, inr}
use Rattle.lfg_context.specs.Seen.{Set, Known}
use Rattle.lfg_context.specs.Sets.{IsMade, AreMade}
use Rattle.lfg_model.proofs.ListLaws.{In-one, In-append_cases}
use Rattle.lfg_instant.proofs.reached.picks_of.Goals as goal

both_made : (k : Known) (xs ys : List Set) → AreMade k (λ x. x) xs → AreMade k (λ x. x) ys → AreMade k (λ x. x) (xs ++ ys)
both_made k xs ys a b = record { each = λ x i. elim (In-append_cases xs ys i) [ inl j ↦ a.each x j | inr j ↦ b.each x j ] }

one_made : (k : Known) (x : Set) → IsMade k x → AreMade k (λ y. y) (x ∷ [])
one_made k x m = record { each = λ y i. let P : Set → Type 0 = λ z. IsMade k z in subst P (sym (In-one i)) m }

joined : (more old before new : List Set) → old ≡ before → new ≡ old ++ more → new ≡ before ++ more
joined more old before new e f = f ∙ ap (λ (xs : List Set). xs ++ more) e

pub returns-clause-made : goal.returns-clause-made
returns-clause-made c =
    let k : Known = c.args.contexts.now in
    let y : Set = c.yes.result in
    let ss : List Set = c.args.step_picks.now in
    let ws : List Set = c.args.word_picks.now in
    let P : List Set → Type 0 = λ xs. AreMade k (λ x. x) xs in
    let one = joined (y ∷ []) c.new-picks.result.items [] c.push.new.self.items c.new-picks.ensures.items c.in_ok-push.ensures.items in
    let two = joined ss c.push.new.self.items (y ∷ []) c.add_sets.new.picks.items one c.in_ok-add_sets.ensures in
    let three = joined ws c.add_sets.new.picks.items (y ∷ ss) c.add_sets-2.new.picks.items two c.in_ok-add_sets-2.ensures in
    subst P (sym three) (both_made k (y ∷ ss) ws (both_made k (y ∷ []) ss (one_made k y c.yes.ensures.made) c.requires.steps) c.requires.words)
