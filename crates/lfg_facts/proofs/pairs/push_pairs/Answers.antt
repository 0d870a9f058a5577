use Rattle.lfg_facts.proofs.FactLaws.{pairs_adds}
use Rattle.lfg_facts.proofs.pairs.push_pairs.Goals as goal

pub returns-clause-adds : goal.returns-clause-adds
returns-clause-adds c =
    pairs_adds c.args.relation.now c.args.first.now c.args.seconds.now c.args.here.now c.in_ok-both.both c.args.facts.now.items c.push_seconds.new.facts.items c.in_ok-both.ensures.ok.members
    c.in_ok-push_seconds.ensures.adds
