use Rattle.std.proofs.Common.{arith, ◌-◌}
use Rattle.std.proofs.lemmas.Result.{err_from_is_err_and}
use Rattle.lfg_model.specs.PathExpressions.{expression_of, expressions_of, HasShort, row}
use Rattle.lfg_regpath.proofs.SetLaws.{set_none}
use Rattle.lfg_regpath.proofs.RowLaws.{branch_start, row_long}
use Rattle.lfg_regpath.proofs.Turns.{at_star, at_plus, star_all, star_over, plus_all, plus_over, star_full_at, plus_full_at, read_none, read_stop, read_stop_joined, read_on, read_all, branch_over, branch_over_added}
use Rattle.lfg_regpath.proofs.strings.+strings.Goals as goal

pub strings-returns-in_err-once-in-Star-clause-full : goal.strings-returns-in_err-once-in-Star-clause-full
strings-returns-in_err-once-in-Star-clause-full t c =
    let p = err_from_is_err_and c.from_residual.result c.from_residual.ensures.1 in
    rw (p.1, p.2) (star_full_at (expression_of c.args.path.now) (expression_of c.deref-in-Star.result.now) c.args.limit c.in_err-once-in-Star.field-0.0
    (at_star c.args.path.now c.in-Star.inside c.deref-in-Star.result.now c.in-Star.is c.deref-in-Star.ensures) c.in_err-once-in-Star.ensures.full)

pub strings-returns-in_err-once-in-Plus-clause-full : goal.strings-returns-in_err-once-in-Plus-clause-full
strings-returns-in_err-once-in-Plus-clause-full t c =
    let p = err_from_is_err_and c.from_residual-in_err-once-in-Plus.result c.from_residual-in_err-once-in-Plus.ensures.1 in
    rw (p.1, p.2) (plus_full_at (expression_of c.args.path.now) (expression_of c.deref-in-Plus.result.now) c.args.limit c.in_err-once-in-Plus.field-0.0
    (at_plus c.args.path.now c.in-Plus.inside c.deref-in-Plus.result.now c.in-Plus.is c.deref-in-Plus.ensures) c.in_err-once-in-Plus.ensures.full)

pub strings-returns-in_ok-once-in-Star-clause-all : goal.strings-returns-in_ok-once-in-Star-clause-all
strings-returns-in_ok-once-in-Star-clause-all t c =
    star_all (expression_of c.args.path.now) (expression_of c.deref-in-Star.result.now) c.args.limit c.deref-in-Star-2.result.now c.in_ok-once-in-Star.once.items c.deref-in-Star-2.ensures.value
    c.in_ok-once-in-Star.ensures.all c.repeated_or_empty.result (at_star c.args.path.now c.in-Star.inside c.deref-in-Star.result.now c.in-Star.is c.deref-in-Star.ensures) c.repeated_or_empty.ensures.all

pub strings-returns-in_ok-once-in-Star-clause-full : goal.strings-returns-in_ok-once-in-Star-clause-full
strings-returns-in_ok-once-in-Star-clause-full t c =
    star_over (expression_of c.args.path.now) (expression_of c.deref-in-Star.result.now) c.args.limit c.deref-in-Star-2.result.now c.in_ok-once-in-Star.once.items c.deref-in-Star-2.ensures.value
    c.in_ok-once-in-Star.ensures.all c.repeated_or_empty.result (at_star c.args.path.now c.in-Star.inside c.deref-in-Star.result.now c.in-Star.is c.deref-in-Star.ensures) c.repeated_or_empty.ensures.full

pub strings-returns-in_ok-once-in-Plus-clause-all : goal.strings-returns-in_ok-once-in-Plus-clause-all
strings-returns-in_ok-once-in-Plus-clause-all t c =
    plus_all (expression_of c.args.path.now) (expression_of c.deref-in-Plus.result.now) c.args.limit c.deref-in-Plus-2.result.now c.in_ok-once-in-Plus.once.items c.deref-in-Plus-2.ensures.value
    c.in_ok-once-in-Plus.ensures.all c.repeated.result (at_plus c.args.path.now c.in-Plus.inside c.deref-in-Plus.result.now c.in-Plus.is c.deref-in-Plus.ensures) c.repeated.ensures.all

pub strings-returns-in_ok-once-in-Plus-clause-full : goal.strings-returns-in_ok-once-in-Plus-clause-full
strings-returns-in_ok-once-in-Plus-clause-full t c =
    plus_over (expression_of c.args.path.now) (expression_of c.deref-in-Plus.result.now) c.args.limit c.deref-in-Plus-2.result.now c.in_ok-once-in-Plus.once.items c.deref-in-Plus-2.ensures.value
    c.in_ok-once-in-Plus.ensures.all c.repeated.result (at_plus c.args.path.now c.in-Plus.inside c.deref-in-Plus.result.now c.in-Plus.is c.deref-in-Plus.ensures) c.repeated.ensures.full

pub strings_of_branches-loop-branch-init : goal.strings_of_branches-loop-branch-init
strings_of_branches-loop-branch-init t c = rw c.new-set.ensures.items (branch_start (expressions_of c.args.branches.now) c.args.limit)

pub strings_of_branches-returns-in_err-found-clause-full : goal.strings_of_branches-returns-in_err-found-clause-full
strings_of_branches-returns-in_err-found-clause-full t c =
    let p = err_from_is_err_and c.from_residual.result c.from_residual.ensures.1 in
    rw (p.1, p.2) (branch_over c.args.branches.now c.loop-branch.branch-index c.branch-item.result (omega arith) c.branch-item.is c.args.limit c.loop-branch.set.items c.loop-branch.invariant
    c.in_err-found.field-0.0 c.in_err-found.ensures.full)

pub strings_of_branches-returns-in_err-add_all-clause-full : goal.strings_of_branches-returns-in_err-add_all-clause-full
strings_of_branches-returns-in_err-add_all-clause-full t c =
    let p = err_from_is_err_and c.from_residual-in_err-add_all.result c.from_residual-in_err-add_all.ensures.1 in
    rw (p.1, p.2) (branch_over_added c.args.branches.now c.loop-branch.branch-index c.branch-item.result (omega arith) c.branch-item.is c.args.limit c.loop-branch.set.items c.loop-branch.invariant
    c.in_ok-found.found.items c.in_ok-found.ensures.all c.deref.result.now c.deref.ensures.value c.in_err-add_all.field-0.0 c.in_err-add_all.ensures.full)

pub strings_of_row-returns-then-shortest-limit-clause-all : goal.strings_of_row-returns-then-shortest-limit-clause-all
strings_of_row-returns-then-shortest-limit-clause-all t c =
    let l = row_long (expressions_of c.args.parts.now) c.args.limit (omega (arith, c.least_of_row-shortest.ensures, c.if-shortest-limit.true)) in
    rw c.new.ensures.items (set_none (HasShort (row (expressions_of c.args.parts.now)) c.args.limit) l)

pub strings_of_row-loop-part-init : goal.strings_of_row-loop-part-init
strings_of_row-loop-part-init t c = read_none c.args.parts.now c.least_of_row-shortest.result c.args.limit c.in_ok-set.set.items c.least_of_row-shortest.ensures (omega arith) c.in_ok-set.ensures.only

pub strings_of_row-returns-in_err-found-clause-full : goal.strings_of_row-returns-in_err-found-clause-full
strings_of_row-returns-in_err-found-clause-full t c =
    let p = err_from_is_err_and c.from_residual-in_err-found.result c.from_residual-in_err-found.ensures.1 in
    rw (p.1, p.2) (read_stop c.args.parts.now c.loop-part.part-index c.part-item.result (omega arith) c.part-item.is (c.args.limit - c.least_of_row-shortest.result) c.loop-part.so_far c.args.limit c.loop-part.set.items c.loop-part.invariant
    c.least-own.result c.least-own.ensures c.requires c.in_err-found.field-0.0 c.in_err-found.ensures.full)

pub strings_of_row-returns-in_err-set-2-clause-full : goal.strings_of_row-returns-in_err-set-2-clause-full
strings_of_row-returns-in_err-set-2-clause-full t c =
    let p = err_from_is_err_and c.from_residual-in_err-set-2.result c.from_residual-in_err-set-2.ensures.1 in
    rw (p.1, p.2) (read_stop_joined c.args.parts.now c.loop-part.part-index c.part-item.result (omega arith) c.part-item.is (c.args.limit - c.least_of_row-shortest.result) c.loop-part.so_far c.args.limit c.loop-part.set.items c.loop-part.invariant
    c.least-own.result c.least-own.ensures c.requires c.in_ok-found.found.items c.in_ok-found.ensures.all c.deref.result.now c.deref-in-loop-part.result.now c.deref.ensures.value c.deref-in-loop-part.ensures.value
    c.in_err-set-2.field-0.0 c.in_err-set-2.ensures.full)

pub strings_of_row-loop-part-preserved : goal.strings_of_row-loop-part-preserved
strings_of_row-loop-part-preserved t c =
    read_on c.args.parts.now c.loop-part.part-index c.part-item.result (omega arith) c.part-item.is (c.args.limit - c.least_of_row-shortest.result) c.loop-part.so_far c.args.limit c.loop-part.set.items c.loop-part.invariant
    c.least-own.result c.least-own.ensures c.requires c.in_ok-found.found.items c.in_ok-found.ensures.all c.deref.result.now c.deref-in-loop-part.result.now c.deref.ensures.value c.deref-in-loop-part.ensures.value
    c.in_ok-set-2.set.items c.in_ok-set-2.ensures.all

pub strings_of_row-returns-clause-all : goal.strings_of_row-returns-clause-all
strings_of_row-returns-clause-all t c =
    read_all c.args.parts.now c.loop-part.part-index (c.args.limit - c.least_of_row-shortest.result) c.loop-part.so_far c.args.limit c.loop-part.set.items (omega arith) c.loop-part.invariant
