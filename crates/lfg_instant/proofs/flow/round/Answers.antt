use Rattle.std.proofs.Common.{◌∙◌, ap, drop, arith, ◌+◌}
use Rattle.lfg_context.proofs.Growing.{grown_trans, same_picks_trans}
use Rattle.lfg_instant.specs.Flow.{at, after_all}
use Rattle.lfg_instant.proofs.FlowTables.{after_next, within_at, neither}
use Rattle.lfg_instant.proofs.flow.round.Goals as goal

pub pass-requires-clause-within : goal.pass-requires-clause-within
pass-requires-clause-within c = within_at c.loop-passage.passage-index _ c.requires.within (omega arith) c.loop-passage.invariant.len

pub loop-passage-preserved : goal.loop-passage-preserved
loop-passage-preserved c = record {
  made = c.in_ok-more.ensures.made;
  grown = grown_trans c.loop-passage.invariant.grown c.in_ok-more.ensures.grown;
  picks = same_picks_trans c.loop-passage.invariant.picks c.in_ok-more.ensures.picks;
  len = c.in_ok-more.ensures.len ∙ c.loop-passage.invariant.len;
  step = λ a. ap (after_all (at c.args.picks.now a) (drop (c.loop-passage.passage-index + 1) c.args.passages.now)) (c.in_ok-more.ensures.step a)
      ∙ after_next (at c.args.picks.now a) c.args.passages.now c.loop-passage.passage-index _ (at c.loop-passage.table.items a) (omega arith)
      ∙ c.loop-passage.invariant.step a;
  kept = λ e. (let t = neither c.loop-passage.changed c.in_ok-more.more e in c.in_ok-more.ensures.kept t.1 ∙ c.loop-passage.invariant.kept t.0);
}
