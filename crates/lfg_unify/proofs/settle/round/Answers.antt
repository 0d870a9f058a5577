use Rattle.lfg_unify.proofs.SweepLaws.{growth_trans}
use Rattle.lfg_unify.proofs.SettleLaws.{linked_before, joined_after}
use Rattle.lfg_unify.proofs.settle.round.Goals as goal

pub returns-then-joined-clause-growth : goal.returns-then-joined-clause-growth
returns-then-joined-clause-growth c =
    growth_trans c.args.arcs.now c.args.table.now c.join_all.new.table c.link_all.new.table (c.in_ok-joined.ensures.growth c.args.arcs.now) c.in_ok-linked.ensures.growth

pub returns-then-joined-clause-linked : goal.returns-then-joined-clause-linked
returns-then-joined-clause-linked c =
    linked_before c.args.arcs.now c.args.table.now c.join_all.new.table c.link_all.new.table (c.in_ok-joined.ensures.growth c.args.arcs.now).keeps c.in_ok-linked.ensures.linked

pub returns-then-joined-clause-joined : goal.returns-then-joined-clause-joined
returns-then-joined-clause-joined c =
    joined_after c.args.table.now c.join_all.new.table c.link_all.new.table c.in_ok-linked.ensures.growth.keeps c.in_ok-joined.ensures.joined

pub returns-clause-growth : goal.returns-clause-growth
returns-clause-growth c =
    growth_trans c.args.arcs.now c.args.table.now c.join_all.new.table c.link_all.new.table (c.in_ok-joined.ensures.growth c.args.arcs.now) c.in_ok-linked.ensures.growth

pub returns-clause-linked : goal.returns-clause-linked
returns-clause-linked c =
    linked_before c.args.arcs.now c.args.table.now c.join_all.new.table c.link_all.new.table (c.in_ok-joined.ensures.growth c.args.arcs.now).keeps c.in_ok-linked.ensures.linked

pub returns-clause-joined : goal.returns-clause-joined
returns-clause-joined c =
    joined_after c.args.table.now c.join_all.new.table c.link_all.new.table c.in_ok-linked.ensures.growth.keeps c.in_ok-joined.ensures.joined
