use Rattle.std.proofs.Common.{subst, sym}
use Rattle.lfg_terms.specs.declared.literal.Check.{Check}
use Rattle.lfg_context.specs.Telling.{Excludes}
use Rattle.lfg_constrain.specs.Checks.{Passes}
use Rattle.lfg_constrain.proofs.CheckLaws.{same_passes, exists_passes}
use Rattle.lfg_constrain.proofs.checks.failing_one.Goals as goal

pub returns-in_ok-fails-in-Same-clause-tells : goal.returns-in_ok-fails-in-Same-clause-tells
returns-in_ok-fails-in-Same-clause-tells c =
    let Q : Check → Type 0 = λ v. Excludes c.in_ok-fails-in-Same.fails (Passes c.args.closure.now v c.args.set.now) in
    subst Q (sym c.in-Same.is)
    (same_passes c.args.closure.now c.in-Same.negated c.in-Same.left c.in-Same.right c.args.set.now c.in_ok-plain-in-Same.plain c.in_ok-fails-in-Same.fails c.in_ok-plain-in-Same.ensures.tells c.in_ok-fails-in-Same.ensures.fails)

pub returns-in_ok-fails-in-Exists-clause-tells : goal.returns-in_ok-fails-in-Exists-clause-tells
returns-in_ok-fails-in-Exists-clause-tells c =
    let Q : Check → Type 0 = λ v. Excludes c.in_ok-fails-in-Exists.fails (Passes c.args.closure.now v c.args.set.now) in
    subst Q (sym c.in-Exists.is)
    (exists_passes c.args.closure.now c.in-Exists.negated c.in-Exists.left c.args.set.now c.in_ok-plain-in-Exists.plain c.in_ok-fails-in-Exists.fails c.in_ok-plain-in-Exists.ensures.tells c.in_ok-fails-in-Exists.ensures.fails)
