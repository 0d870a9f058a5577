use Rattle.std.proofs.Common.{arith}
use Rattle.std.proofs.lemmas.Option.{slice_get_within}
use Rattle.xle_run.proofs.SearchWords.{later_entry}
use Rattle.xle_run.proofs.search.entry_place.Goals as goal

pub loop-place-preserved : goal.loop-place-preserved
loop-place-preserved c place h =
    later_entry c.args.lexicon.now c.args.token.now c.args.cat.now place h c.loop-place.place c.index-lexicon-place.result c.index-lexicon-place.is (c.loop-place.invariant place h) c.if-is_entry.ensures.no

pub returns-clause-none : goal.returns-clause-none
returns-clause-none c place h = absurd (omega (arith, c.loop-place.invariant place h, slice_get_within c.args.lexicon.now place h.entry h.listed))
