use Rattle.std.proofs.Common.{◌≡◌, ◌==◌, ℕ, ◌+◌, Some, List, ◌∷◌, ◌++◌, [], length, map, slice_get, sym, subst, ap, ◌∙◌}
use Rattle.std.proofs.lemmas.List.{length-append}
use Rattle.lfg_context.specs.Seen.{Set}
use Rattle.lfg_context.specs.Sets.{member, AreMade}
use Rattle.lfg_context.proofs.Growing.{grown_trans, are_made_grown, are_made_push}
use Rattle.lfg_packed.specs.Assignments.{alternative_at}
use Rattle.lfg_packed.specs.ChoicePoints.{BranchAt}
use Rattle.lfg_instant.specs.Junctions.{placed}
use Rattle.lfg_instant.proofs.SetLaws.{pushed_each}
use Rattle.lfg_instant.proofs.sets.place_sets.Goals as goal

pub pick-requires-clause-place : goal.pick-requires-clause-place
pick-requires-clause-place c =
    let at = c.requires.at.0 in
    (BranchAt at c.args.place, record { is = c.in_ok-at.ensures c.args.grammar.now c.args.tokens.now at c.requires.at.2; has = (c.requires.at.1, c.requires.at.3); within = c.loop-number-test.true })

pub loop-number-preserved : goal.loop-number-preserved
loop-number-preserved c =
    let g = c.args.grammar.now in
    let s = c.args.tokens.now in
    let v = c.loop-number.invariant in
    let old = c.loop-number.sets.items in
    let set : Set = c.in_ok-set.set in
    let items : c.push.new.self.items ≡ old ++ set ∷ [] = c.in_ok-push.ensures.items in
    let is = c.in_ok-set.ensures.ok in
    let own = is (BranchAt c.requires.at.0 c.args.place) (c.in_ok-at.ensures g s c.requires.at.0 c.requires.at.2) in
    let M : List Set → Type 0 = λ xs. AreMade c.pick.new.contexts (λ x. x) xs in
    let count : length (old ++ set ∷ []) ≡ c.loop-number.number + 1 = length-append old (set ∷ []) ∙ ap (λ n. n + 1) v.len in
    record {
      made = subst M (sym items) (are_made_push (are_made_grown c.in_ok-set.ensures.grown v.made) own.made);
      grown = grown_trans v.grown c.in_ok-set.ensures.grown;
      picks = c.in_ok-set.ensures.picks;
      len = ap (λ (xs : List Set). length xs) items ∙ count;
      each = λ at e a i x h.
          (let P : ℕ → Set → Type 0 = λ j y. member y a ≡ (alternative_at g s (map placed c.args.junctions.now) a (BranchAt at c.args.place) == j) in
          let Q : List Set → Type 0 = λ xs. slice_get xs i ≡ Some x in
          let one = is (BranchAt at c.args.place) (c.in_ok-at.ensures g s at e) in
          pushed_each P old set c.loop-number.number v.len (λ j y k. v.each at e a j y k) (one.members a) i x (subst Q items h));
    }
