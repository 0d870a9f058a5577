use Rattle.std.proofs.Common.{◌≡◌, ◌+◌, Some, List, [], ◌∷◌, ◌++◌, length, map, slice_get, sym, subst, ap, ◌∙◌, arith}
use Rattle.std.proofs.lemmas.List.{length-append}
use Rattle.lfg_context.specs.Seen.{Set}
use Rattle.lfg_context.specs.Sets.{AreMade}
use Rattle.lfg_context.proofs.Growing.{grown_trans, are_made_grown, are_made_push}
use Rattle.lfg_packed.specs.Assignments.{alternative_at}
use Rattle.lfg_packed.specs.ChoicePoints.{EntryAt}
use Rattle.lfg_packed.proofs.Listing.{get_In}
use Rattle.lfg_instant.specs.Junctions.{placed}
use Rattle.lfg_instant.proofs.CollectLaws.{place_is}
use Rattle.lfg_instant.proofs.TakenSets.{sets_push}
use Rattle.lfg_instant.proofs.taken.word_picks.Goals as goal

pub word_pick-requires-clause-place : goal.word_pick-requires-clause-place
word_pick-requires-clause-place c =
    let ws = c.args.words.now in
    let m = c.loop-word.word-index in
    let w = c.word-item.result in
    c.requires.places w (get_In ws m w (place_is ws m w (omega arith) c.word-item.is))

pub loop-word-preserved : goal.loop-word-preserved
loop-word-preserved c =
    let v = c.loop-word.invariant in
    let old = c.loop-word.sets.items in
    let set : Set = c.in_ok-set.set in
    let items : c.push.new.self.items ≡ old ++ set ∷ [] = c.in_ok-push.ensures.items in
    let own = c.in_ok-set.ensures.ok in
    let M : List Set → Type 0 = λ xs. AreMade c.word_pick.new.contexts (λ x. x) xs in
    record {
      made = subst M (sym items) (are_made_push (are_made_grown c.in_ok-set.ensures.grown v.made) own.made);
      grown = grown_trans v.grown c.in_ok-set.ensures.grown;
      picks = c.in_ok-set.ensures.picks;
      len = ap (λ (xs : List Set). length xs) items ∙ length-append old (set ∷ []) ∙ ap (λ n. n + 1) v.len;
      each = λ n w x e h a.
          (let Q : List Set → Type 0 = λ xs. slice_get xs n ≡ Some x in
          sets_push (λ b y. alternative_at c.args.grammar.now c.args.tokens.now (map placed c.args.junctions.now) b (EntryAt y.edge)) (λ y. y.number) c.args.words.now old c.word-item.result set c.loop-word.word-index
          (omega arith) c.word-item.is v.len v.each own.members n w x e (subst Q items h) a);
    }
