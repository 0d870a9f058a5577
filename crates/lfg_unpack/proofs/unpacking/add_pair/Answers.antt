use Rattle.std.proofs.Common.{refl}
use Rattle.lfg_context.specs.Sets.{assigned}
use Rattle.lfg_unpack.proofs.Plainness.{plain_pair}
use Rattle.lfg_unpack.proofs.unpacking.add_pair.Goals as goal

pub new-requires : goal.new-requires
new-requires c = plain_pair c.args.tree.now c.args.facts.now (assigned c.args.assignment.now) c.in_ok-pair.pair c.requires.plain c.in_ok-pair.ensures
