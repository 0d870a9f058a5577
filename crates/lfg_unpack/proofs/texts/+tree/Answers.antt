use Rattle.std.proofs.Common.{◌-◌, arith}
use Rattle.lfg_unpack.proofs.TreeLaws.{tree_closed}
use Rattle.lfg_unpack.proofs.texts.+tree.Goals as goal

pub push_tree-returns : goal.push_tree-returns
push_tree-returns t c =
    tree_closed (c.args.depth - 1) c.args.depth c.args.facts.now c.args.edge.now c.loop-fact.fact-index c.args.text.now.items c.push.new.self.items c.push_name.new.text.items c.loop-fact.text.items c.push-2.new.self.items
    (omega arith) c.in_ok-push.ensures.items c.in_ok-push_name.ensures.ok c.loop-fact.invariant (omega arith) c.in_ok-push-2.ensures.items
