use Rattle.std.proofs.Common.{arith}
use Rattle.lfg_context.proofs.Growing.{grown_trans, same_picks_trans}
use Rattle.lfg_facts.specs.Stating.{IsFormOf}
use Rattle.lfg_facts.proofs.AddLaws.{listed_more, listed_all}
use Rattle.lfg_facts.proofs.FactLaws.{form_adds}
use Rattle.lfg_facts.proofs.forms.push_form.Goals as goal

pub loop-name-preserved : goal.loop-name-preserved
loop-name-preserved c =
    let inv = c.loop-name.invariant in
    record {
      grown = grown_trans inv.grown c.in_ok-push_named.ensures.grown;
      picks = same_picks_trans inv.picks c.in_ok-push_named.ensures.picks;
      facts = c.in_ok-push_named.ensures.facts;
      adds = listed_more (λ f. IsFormOf c.args.form.now c.args.here.now f) c.args.names.now c.loop-name.name-index c.name-item.result (omega arith) c.name-item.is inv.adds c.in_ok-push_named.ensures.adds;
    }

pub returns-clause-adds : goal.returns-clause-adds
returns-clause-adds c =
    form_adds c.args.form.now c.args.names.now c.args.here.now c.args.facts.now.items c.loop-name.facts.items
    (listed_all (λ f. IsFormOf c.args.form.now c.args.here.now f) c.args.names.now c.loop-name.name-index (omega arith) c.loop-name.invariant.adds)
