use Rattle.std.proofs.Common.{arith, Some, [], ap, sym, ◌∙◌}
use Rattle.lfg_instant.specs.Steps.{IsWordAt, IsWordOf}
use Rattle.lfg_instant.proofs.CollectLaws.{counted_none, counted_more, collects_along, collected, place_is}
use Rattle.lfg_instant.proofs.StepLaws.{WordAt, at_edge, words_at}
use Rattle.lfg_instant.proofs.steps.words_of.Goals as goal

pub loop-place-init : goal.loop-place-init
loop-place-init c = rw c.new-words.ensures.items (counted_none [] (WordAt c.args.edges.now c.args.lists.now))

pub loop-place-preserved : goal.loop-place-preserved
loop-place-preserved c =
    counted_more [] c.loop-place.words.items c.add_words.new.words.items (WordAt c.args.edges.now c.args.lists.now) (IsWordAt c.loop-place.place c.index-edges-place.result c.list.result.now) c.loop-place.place
    c.loop-place.invariant c.in_ok-add_words.ensures
    (λ w. at_edge c.args.edges.now c.args.lists.now c.loop-place.place c.index-edges-place.result c.list.result.now
    (place_is c.args.edges.now c.loop-place.place c.index-edges-place.result c.loop-place-test.true c.index-edges-place.is)
    (place_is c.args.lists.now c.loop-place.place c.index-lists-place.result (omega (arith, c.loop-place-test.true, c.requires)) c.index-lists-place.is ∙ ap (λ ks. Some ks) (sym c.list.ensures)) w)

pub returns : goal.returns
returns c = record {
  exact = collected c.loop-place.words.items _ (collects_along [] c.loop-place.words.items _ (IsWordOf c.args.edges.now c.args.lists.now)
      (λ w. words_at c.args.edges.now c.args.lists.now c.loop-place.place (omega (arith, c.loop-place-test.false)) w) c.loop-place.invariant);
}
