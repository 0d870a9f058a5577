use Rattle.std.proofs.Common.{arith}
use Rattle.lfg_chart.proofs.CheckLaws.{numbers_of_items}
use Rattle.lfg_chart.proofs.checked.are_items.Goals as goal

pub returns : goal.returns
returns c = λ _. numbers_of_items c.args.items.now c.args.size c.loop-i.i (omega (arith, c.loop-i-test.false)) c.loop-i.invariant
