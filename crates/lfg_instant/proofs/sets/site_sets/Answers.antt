use Rattle.std.proofs.Common.{◌≡◌, ℕ, ◌+◌, Some, List, ◌∷◌, ◌++◌, [], length, map, take, get_or, slice_get, sym, subst, arith, ap, ◌∙◌, refl}
use Rattle.std.proofs.lemmas.Option.{slice_get-get_or}
use Rattle.lfg_context.specs.Seen.{Set}
use Rattle.lfg_context.proofs.Growing.{grown_trans, grown_refl}
use Rattle.lfg_model.proofs.ListLaws.{In-nil}
use Rattle.lfg_model.specs.Places.{places}
use Rattle.lfg_packed.specs.Assignments.{alternative_at}
use Rattle.lfg_packed.specs.Choices.{annotation_at}
use Rattle.lfg_packed.specs.ChoicePoints.{BranchAt}
use Rattle.lfg_instant.specs.Annotations.{IsPick, ArePicksMade}
use Rattle.lfg_instant.specs.Junctions.{placed}
use Rattle.lfg_instant.proofs.SetLaws.{pushed_each, picks_made_push, lengths_more, how_many, picks_all}
use Rattle.lfg_instant.proofs.sets.site_sets.Goals as goal

pub loop-place-init : goal.loop-place-init
loop-place-init c =
    let e = c.new-sets.ensures.items in
    record {
      made = record { each = λ xs i. In-nil (rw e at i) };
      grown = grown_refl c.args.contexts.now;
      picks = c.requires.picks;
      numbers = rw e refl;
      each = λ at k a j xs h. (let P : List (List Set) → Type 0 = λ ls. slice_get ls j ≡ Some xs in let never = subst P e h in absurd (cc));
    }

pub place_sets-requires-clause-at : goal.place_sets-requires-clause-at
place_sets-requires-clause-at c =
    let P : List ℕ → Type 0 = λ ns. slice_get ns c.loop-place.place ≡ Some (get_or c.args.numbers.now c.loop-place.place 0) in
    (c.requires.at.0, c.requires.at.1, c.requires.at.2, subst P c.requires.at.3 (slice_get-get_or c.args.numbers.now c.loop-place.place 0 c.loop-place-test.true))

pub loop-place-preserved : goal.loop-place-preserved
loop-place-preserved c =
    let g = c.args.grammar.now in
    let s = c.args.tokens.now in
    let v = c.loop-place.invariant in
    let old = c.loop-place.sets.items in
    let list : List Set = c.in_ok-list.list in
    let items : c.push.new.self.items ≡ old ++ list ∷ [] = c.in_ok-push.ensures.items in
    let M : List (List Set) → Type 0 = λ xs. ArePicksMade c.place_sets.new.contexts xs in
    let N : List (List Set) → Type 0 = λ xs. map length xs ≡ take (c.loop-place.place + 1) c.args.numbers.now in
    let many : length old ≡ c.loop-place.place = how_many old c.args.numbers.now c.loop-place.place (omega (arith, c.loop-place-test.true)) v.numbers in
    record {
      made = subst M (sym items) (picks_made_push c.loop-place.contexts c.place_sets.new.contexts old list c.in_ok-list.ensures.grown v.made c.in_ok-list.ensures.made);
      grown = grown_trans v.grown c.in_ok-list.ensures.grown;
      picks = c.in_ok-list.ensures.picks;
      numbers = subst N (sym items) (lengths_more old c.args.numbers.now list c.loop-place.place c.loop-place-test.true v.numbers c.in_ok-list.ensures.len);
      each = λ at e a j xs h.
          (let P : ℕ → List Set → Type 0 = λ i ys. IsPick ys a (alternative_at g s (map placed c.args.junctions.now) a (BranchAt at i)) in
          let Q : List (List Set) → Type 0 = λ ls. slice_get ls j ≡ Some xs in
          pushed_each P old list c.loop-place.place many (λ i ys k. v.each at e a i ys k) (c.in_ok-list.ensures.each at e a) j xs (subst Q items h));
    }

pub returns-clause-each : goal.returns-clause-each
returns-clause-each c = λ at e ns a.
    (let v = c.loop-place.invariant in
    let f : ℕ → ℕ = λ k. alternative_at c.args.grammar.now c.args.tokens.now (map placed c.args.junctions.now) a (BranchAt at k) in
    let end : c.loop-place.place ≡ length c.args.numbers.now = omega (arith, c.loop-place-test.false, c.loop-place.auto.place-end) in
    let many : length c.loop-place.sets.items ≡ c.loop-place.place = how_many c.loop-place.sets.items c.args.numbers.now c.loop-place.place c.loop-place.auto.place-end v.numbers in
    let len : length c.loop-place.sets.items ≡ length (places (annotation_at c.args.grammar.now at)) = many ∙ end ∙ ap (λ (zs : List ℕ). length zs) ns in
    picks_all a f 0 c.loop-place.sets.items (places (annotation_at c.args.grammar.now at)) len
    (λ j xs h. (let P : ℕ → Type 0 = λ k. IsPick xs a (f k) in let z : j ≡ 0 + j = omega arith in subst P z (v.each at e a j xs h))))
