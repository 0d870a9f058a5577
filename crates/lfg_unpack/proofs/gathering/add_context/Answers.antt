use Rattle.std.proofs.Common.{refl}
use Rattle.lfg_unpack.proofs.Splitting.{gathers_known, gathers_push}
use Rattle.lfg_unpack.proofs.gathering.add_context.Goals as goal

pub returns-then-is_known-clause-gathers : goal.returns-then-is_known-clause-gathers
returns-then-is_known-clause-gathers c = gathers_known c.args.sets.now.items c.args.entry.now (rw c.deref.ensures.value at c.if-is_known.ensures)

pub returns-clause-gathers : goal.returns-clause-gathers
returns-clause-gathers c = rw c.in_ok-push.ensures.items (gathers_push c.args.sets.now.items c.args.entry.now c.in_ok-ctx.ctx c.in_ok-ctx.ensures)
