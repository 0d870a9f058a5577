use Rattle.std.proofs.Common.{◌<◌, get_or, arith}
use Rattle.lfg_grammar.specs.Cycles.{rank_of}
use Rattle.lfg_grammar.proofs.CycleLaws.{below_more}
use Rattle.lfg_grammar.proofs.cycles.all_below.Goals as goal

pub loop-place-preserved : goal.loop-place-preserved
loop-place-preserved c =
    let some : 0 < rank_of c.args.ranks.now (get_or c.args.row.now c.loop-place.place-index 0) = omega (arith, c.rank_of-below.ensures, c.if-below-eq0.false) in
    let less : rank_of c.args.ranks.now (get_or c.args.row.now c.loop-place.place-index 0) < c.args.rank = omega (arith, c.rank_of-below.ensures, c.if-below-rank.false) in
    below_more c.args.row.now c.args.ranks.now c.loop-place.place-index c.args.rank c.loop-place-test.true some less c.loop-place.invariant
