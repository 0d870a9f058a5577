use Rattle.std.proofs.Common.{arith}
use Rattle.std.proofs.lemmas.Result.{err_from_is_err_and}
use Rattle.lfg_regpath.proofs.SetLaws.{all_step, all_stop, copy_at}
use Rattle.lfg_regpath.proofs.set.add_all.Goals as goal

pub loop-path-preserved : goal.loop-path-preserved
loop-path-preserved c =
    all_step c.args.set.now.items c.args.paths.now c.loop-path.path-index c.in_ok-clone.field-0 (omega arith) (copy_at c.args.paths.now c.loop-path.path-index c.path-item.result c.in_ok-clone.field-0 c.in_ok-clone.ensures.cases c.path-item.is) c.loop-path.invariant c.in_ok-add.ensures.added

pub returns-in_err-add-clause-full : goal.returns-in_err-add-clause-full
returns-in_err-add-clause-full c =
    let p = err_from_is_err_and c.from_residual-in_err-add.result c.from_residual-in_err-add.ensures.1 in
    rw (p.1, p.2) (all_stop c.args.set.now.items c.args.paths.now c.loop-path.path-index c.in_ok-clone.field-0 c.in_err-add.field-0.0 (omega arith) (copy_at c.args.paths.now c.loop-path.path-index c.path-item.result c.in_ok-clone.field-0 c.in_ok-clone.ensures.cases c.path-item.is) c.loop-path.invariant c.in_err-add.ensures.full)
