use Rattle.std.proofs.Common.{◌≤◌, ◌+◌, ◌*◌, length, arith}
use Rattle.lfg_chart.specs.Numbers.{item_total}
use Rattle.lfg_chart.proofs.LoadedLaws.{bound}
use Rattle.lfg_chart.proofs.building.chart_by.Goals as goal

pub rules_of-requires-clause-rules : goal.rules_of-requires-clause-rules
rules_of-requires-clause-rules g c = λ rule h. rw c.list.ensures (c.requires.numbered.rules rule (rw c.list-2.ensures at h))

pub returns-in_err-rules-clause-steps : goal.returns-in_err-rules-clause-steps
returns-in_err-rules-clause-steps g c =
    let p = item_total c.args.grammar.now in
    let a : c.rules_of.new.steps ≤ c.args.steps.now + (p + 1) * p = rw c.list-2.ensures at c.rules_of.ensures.steps in
    omega (arith, a, bound (length c.args.tokens.now) p)

pub returns-clause-steps : goal.returns-clause-steps
returns-clause-steps g c =
    let p = item_total c.args.grammar.now in
    let a : c.rules_of.new.steps ≤ c.args.steps.now + (p + 1) * p = rw c.list-2.ensures at c.rules_of.ensures.steps in
    omega (arith, a, bound (length c.args.tokens.now) p)
