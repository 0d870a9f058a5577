use Rattle.std.proofs.Common.{arith}
use Rattle.lfg_chart.proofs.FillLaws.{turn_same, turn_trans, rules_more}
use Rattle.lfg_chart.proofs.fill.line.Goals as goal

pub loop-cat-init : goal.loop-cat-init
loop-cat-init c = record { turn = turn_same c.args.table.now c.requires.ready; met = λ e. record { each = λ k rule l is. absurd (omega arith) } }

pub loop-cat-preserved : goal.loop-cat-preserved
loop-cat-preserved c = let v = c.loop-cat.invariant in let f = c.category_at-more.ensures in
    record {
      turn = turn_trans v.turn f.turn;
      met = rules_more v.turn c.loop-cat.cat c.args.from c.category_at-more.result v.met f.met;
    }
