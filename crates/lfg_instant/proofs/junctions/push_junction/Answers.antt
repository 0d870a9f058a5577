use Rattle.std.proofs.Common.{arith}
use Rattle.lfg_instant.proofs.JunctionLaws.{one_junction}
use Rattle.lfg_instant.proofs.junctions.push_junction.Goals as goal

pub returns : goal.returns
returns c = one_junction c.args.junctions.now.items c.push.new.self.items c.args.key c.args.many c.in-Ok.alternatives (omega arith) (omega (arith, c.in-Ok.ensures)) c.in_ok-push.ensures.items
