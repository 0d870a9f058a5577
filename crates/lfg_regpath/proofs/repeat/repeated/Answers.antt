use Rattle.std.proofs.Common.{arith}
use Rattle.std.proofs.lemmas.Result.{err_from_is_err_and}
use Rattle.lfg_regpath.proofs.StringLaws.{repeat_start, repeat_step, repeat_stop, repeat_stop_added, repeat_end}
use Rattle.lfg_regpath.proofs.repeat.repeated.Goals as goal

pub loop-round-init : goal.loop-round-init
loop-round-init c = rw (c.in_ok-set.ensures, c.in_ok-last.ensures) (repeat_start c.args.paths.now c.args.limit c.requires.set c.requires.short)

pub returns-in_err-longer-clause-full : goal.returns-in_err-longer-clause-full
returns-in_err-longer-clause-full c =
    let p = err_from_is_err_and c.from_residual-in_err-longer.result c.from_residual-in_err-longer.ensures.1 in
    rw (p.1, p.2) (repeat_stop c.args.paths.now c.args.limit c.loop-round._round c.loop-round.set.items c.loop-round.last.items c.loop-round.invariant c.in_err-longer.field-0.0 (rw c.deref.ensures.value at c.in_err-longer.ensures.full))

pub add_all-requires : goal.add_all-requires
add_all-requires c = c.loop-round.invariant.is

pub returns-in_err-add_all-clause-full : goal.returns-in_err-add_all-clause-full
returns-in_err-add_all-clause-full c =
    let p = err_from_is_err_and c.from_residual-in_err-add_all.result c.from_residual-in_err-add_all.ensures.1 in
    rw (p.1, p.2) (repeat_stop_added c.args.paths.now c.args.limit c.loop-round._round c.loop-round.set.items c.loop-round.last.items c.loop-round.invariant
    c.in_ok-longer.longer.items (rw c.deref.ensures.value at c.in_ok-longer.ensures.all)
    c.in_err-add_all.field-0.0 (rw c.deref-in-loop-round.ensures.value at c.in_err-add_all.ensures.full))

pub loop-round-preserved : goal.loop-round-preserved
loop-round-preserved c =
    repeat_step c.args.paths.now c.args.limit c.loop-round._round c.loop-round.set.items c.loop-round.last.items c.loop-round.invariant
    c.in_ok-longer.longer.items (rw c.deref.ensures.value at c.in_ok-longer.ensures.all)
    c.add_all.new.set.items (rw c.deref-in-loop-round.ensures.value at c.in_ok-add_all.ensures.added)

pub returns-clause-all : goal.returns-clause-all
returns-clause-all c = repeat_end c.args.paths.now c.args.limit c.loop-round._round c.loop-round.set.items c.loop-round.last.items c.loop-round.invariant (omega arith)
