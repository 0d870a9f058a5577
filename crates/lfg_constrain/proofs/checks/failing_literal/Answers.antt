use Rattle.lfg_constrain.proofs.CheckLaws.{one_check}
use Rattle.lfg_constrain.proofs.checks.failing_literal.Goals as goal

pub returns-clause-tells : goal.returns-clause-tells
returns-clause-tells c = one_check c.args.closure.now c.args.literal.now c.in-Some.check.now c.in_ok-one.one c.in-Some.ensures.some c.in_ok-one.ensures.tells
