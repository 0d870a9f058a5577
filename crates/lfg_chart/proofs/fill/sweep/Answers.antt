use Rattle.std.proofs.Common.{arith, ◌-◌}
use Rattle.lfg_chart.proofs.FillLaws.{turn_same, turn_trans, starts_more}
use Rattle.lfg_chart.proofs.fill.sweep.Goals as goal

pub loop-from-init : goal.loop-from-init
loop-from-init c = record { within = omega arith; turn = turn_same c.args.table.now c.requires.ready; met = λ e. record { each = λ k cat rule h l is. absurd (omega arith) } }

pub loop-from-preserved : goal.loop-from-preserved
loop-from-preserved c = let v = c.loop-from.invariant in let f = c.settle-more.ensures in
    record {
      within = omega arith;
      turn = turn_trans v.turn f.turn;
      met = starts_more v.turn (c.loop-from.from - 1) c.loop-from.from c.settle-more.result (omega arith) v.met f.met;
    }
