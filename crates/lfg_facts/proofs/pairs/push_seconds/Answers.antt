use Rattle.std.proofs.Common.{arith}
use Rattle.lfg_context.proofs.Growing.{grown_trans, same_picks_trans}
use Rattle.lfg_facts.specs.Stating.{IsPair}
use Rattle.lfg_facts.proofs.AddLaws.{listed_more, listed_all}
use Rattle.lfg_facts.proofs.pairs.push_seconds.Goals as goal

pub loop-second-preserved : goal.loop-second-preserved
loop-second-preserved c =
    let inv = c.loop-second.invariant in
    record {
      grown = grown_trans inv.grown c.in_ok-push_pair.ensures.grown;
      picks = same_picks_trans inv.picks c.in_ok-push_pair.ensures.picks;
      facts = c.in_ok-push_pair.ensures.facts;
      adds = listed_more (λ f. IsPair c.args.relation.now c.args.first.now c.args.here.now f) c.args.seconds.now c.loop-second.second-index c.second-item.result (omega arith) c.second-item.is
          inv.adds c.in_ok-push_pair.ensures.adds;
    }

pub returns-clause-adds : goal.returns-clause-adds
returns-clause-adds c =
    listed_all (λ f. IsPair c.args.relation.now c.args.first.now c.args.here.now f) c.args.seconds.now c.loop-second.second-index (omega arith) c.loop-second.invariant.adds
