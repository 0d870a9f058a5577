use Rattle.std.proofs.Common.{arith}
use Rattle.std.proofs.lemmas.Bool.{false≢true}
use Rattle.lfg_grammar.proofs.CycleLaws.{ranked_is_on_no_cycle, ranked_above_is_on_no_cycle}
use Rattle.lfg_grammar.proofs.cycles.is_on_cycle.Goals as goal

pub returns-then-below-gt0 : goal.returns-then-below-gt0
returns-then-below-gt0 c = (
  (λ e. absurd (false≢true e)),
  (λ w. absurd (ranked_is_on_no_cycle c.args.next.now c.args.falling.now c.args.place c.requires.falling (omega (arith, c.rank_of-below.ensures, c.if-below-gt0.true)) w)),
)

pub returns-then-above-gt0 : goal.returns-then-above-gt0
returns-then-above-gt0 c = (
  (λ e. absurd (false≢true e)),
  (λ w. absurd (ranked_above_is_on_no_cycle c.args.next.now c.args.rising.now c.args.place c.requires.rising (omega (arith, c.rank_of-above.ensures, c.if-above-gt0.true)) w)),
)
