use Rattle.std.proofs.Common.{◌≡◌, length, arith}
use Rattle.lfg_chart.proofs.PartLaws.{parts_more, rows_of_parts}
use Rattle.lfg_chart.proofs.table.Table.new.Goals as goal

pub loop-rule-preserved : goal.loop-rule-preserved
loop-rule-preserved c =
    parts_more c.args.rules.now c.loop-rule.rule-index c.args.size c.rule-item.result c.loop-rule.parts.items c.push_category.new.parts.items c.rule-item.is c.loop-rule.invariant c.in_ok-push_category.ensures

pub returns-clause-rows : goal.returns-clause-rows
returns-clause-rows c = rows_of_parts c.args.rules.now (record { size = c.args.size; parts = c.loop-rule.parts })
    (let n : c.loop-rule.rule-index ≡ length c.args.rules.now = omega arith in rw n at c.loop-rule.invariant)
