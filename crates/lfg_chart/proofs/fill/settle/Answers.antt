use Rattle.lfg_chart.proofs.FillLaws.{turn_same, turn_trans, then_met}
use Rattle.std.proofs.Common.{length}
use Rattle.lfg_chart.specs.Filling.{MeetsRules}
use Rattle.lfg_chart.proofs.fill.settle.Goals as goal

pub loop-from-init : goal.loop-from-init
loop-from-init c = turn_same c.args.table.now c.requires.ready

pub loop-from-preserved : goal.loop-from-preserved
loop-from-preserved c = turn_trans c.loop-from.invariant c.line-more.ensures.turn

pub loop-from-smaller : goal.loop-from-smaller
loop-from-smaller c = c.line-more.ensures.turn.step.less c.if-not-more.false

pub returns-then-not-more : goal.returns-then-not-more
returns-then-not-more c = record {
  turn = turn_trans c.loop-from.invariant c.line-more.ensures.turn;
  met = then_met c.loop-from.invariant c.line-more.result (λ t. MeetsRules c.args.rules.now (length c.args.rules.now) t c.args.from) c.line-more.ensures.met;
}
