use Rattle.std.proofs.Common.{refl, arith}
use Rattle.lfg_unpack.proofs.Splitting.{among_at}
use Rattle.lfg_unpack.proofs.gathering.is_known.Goals as goal

pub returns-then-same : goal.returns-then-same
returns-then-same c = among_at c.args.sets.now c.loop-set.set-index c.set-item.result c.args.ctx.now (omega arith) c.set-item.is (c.if-same.ensures.same refl)
