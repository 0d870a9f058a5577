use Rattle.std.proofs.Common.{arith}
use Rattle.lfg_unify.proofs.MarkLaws.{marks_beyond, marks_widened}
use Rattle.lfg_unify.proofs.collect.mark_one.Goals as goal

pub returns-then-place-nodes-clause-marks : goal.returns-then-place-nodes-clause-marks
returns-then-place-nodes-clause-marks c = marks_beyond c.args.nodes.now c.args.node.now c.args.ctx.now c.args.row.now.items (omega (arith, c.place_or_end-place.ensures))

pub returns-clause-marks : goal.returns-clause-marks
returns-clause-marks c =
    marks_widened c.args.nodes.now c.args.node.now c.place_or_end-place.result c.args.ctx.now c.args.row.now.items c.widen_row.new.row.items c.place_or_end-place.ensures (omega arith)
    c.in_ok-_changed.ensures.step
