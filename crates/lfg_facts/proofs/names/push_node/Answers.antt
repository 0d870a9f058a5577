use Rattle.std.proofs.Common.{ap}
use Rattle.lfg_terms.specs.declared.node.Arg as arg
use Rattle.lfg_terms.specs.declared.node.Arg.{Arg}
use Rattle.lfg_facts.proofs.AddLaws.{adds_same}
use Rattle.lfg_facts.proofs.names.push_node.Goals as goal

pub returns-clause-adds : goal.returns-clause-adds
returns-clause-adds c =
    adds_same c.args.names.now.items c.push.new.self.items (arg.Node c.in_ok-clone.field-0) (arg.Node c.args.node.now) c.in_ok-share.field-0 c.args.ctx.now c.in_ok-push.ensures.items
    (ap (λ n. arg.Node n) c.in_ok-clone.ensures.cases) c.in_ok-share.ensures
