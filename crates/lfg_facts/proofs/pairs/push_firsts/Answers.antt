use Rattle.std.proofs.Common.{arith}
use Rattle.lfg_context.proofs.Growing.{grown_trans, same_picks_trans}
use Rattle.lfg_facts.specs.Stating.{IsPairOf}
use Rattle.lfg_facts.proofs.AddLaws.{listed_more, listed_all}
use Rattle.lfg_facts.proofs.pairs.push_firsts.Goals as goal

pub loop-first-preserved : goal.loop-first-preserved
loop-first-preserved c =
    let inv = c.loop-first.invariant in
    record {
      grown = grown_trans inv.grown c.in_ok-push_pairs.ensures.grown;
      picks = same_picks_trans inv.picks c.in_ok-push_pairs.ensures.picks;
      facts = c.in_ok-push_pairs.ensures.facts;
      adds = listed_more (λ f. IsPairOf c.args.relation.now c.args.seconds.now c.args.here.now f) c.args.firsts.now c.loop-first.first-index c.first-item.result (omega arith) c.first-item.is
          inv.adds c.in_ok-push_pairs.ensures.adds;
    }

pub returns-clause-adds : goal.returns-clause-adds
returns-clause-adds c =
    listed_all (λ f. IsPairOf c.args.relation.now c.args.seconds.now c.args.here.now f) c.args.firsts.now c.loop-first.first-index (omega arith) c.loop-first.invariant.adds
