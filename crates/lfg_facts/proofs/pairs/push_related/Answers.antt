use Rattle.lfg_facts.proofs.FactLaws.{related_adds}
use Rattle.lfg_facts.proofs.pairs.push_related.Goals as goal

pub returns-clause-adds : goal.returns-clause-adds
returns-clause-adds c =
    related_adds c.args.relation.now c.args.firsts.now c.args.seconds.now c.args.good.now c.args.ctx.now c.in_ok-here.here c.args.facts.now.items c.push_firsts.new.facts.items c.in_ok-here.ensures.ok.members
    c.in_ok-push_firsts.ensures.adds
