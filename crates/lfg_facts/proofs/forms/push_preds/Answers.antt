use Rattle.std.proofs.Common.{◌<◌, ◌∙◌, List, length, get_or, ap, arith}
use Rattle.lfg_terms.specs.declared.node.Node.{Node}
use Rattle.lfg_model.specs.Terms.{Name}
use Rattle.lfg_context.specs.Seen.{Set}
use Rattle.lfg_context.proofs.Growing.{grown_trans, same_picks_trans, are_made_grown, made_at}
use Rattle.lfg_facts.specs.Stating.{IsPredFact}
use Rattle.lfg_facts.proofs.AddLaws.{listed_more, listed_all}
use Rattle.lfg_facts.proofs.forms.push_preds.Goals as goal

pub push_pred-requires-clause-arc : goal.push_pred-requires-clause-arc
push_pred-requires-clause-arc c =
    let n = c.loop-number.number in
    let d = c.index-arcs-number.result in
    made_at n d (are_made_grown c.loop-number.invariant.grown c.requires.closure.is.made.arcs) (let e = ap length c.arcs-arcs.ensures in omega (arith, e))
    (c.index-arcs-number.is ∙ ap (λ (vs : List (Node × Name × Node × Set)). get_or vs n d) c.arcs-arcs.ensures)

pub loop-number-preserved : goal.loop-number-preserved
loop-number-preserved c =
    let n = c.loop-number.number in
    let d = c.index-arcs-number.result in
    let inv = c.loop-number.invariant in
    let within : n < length c.args.closure.now.arcs = (let e = ap length c.arcs-arcs.ensures in omega (arith, e)) in
    record {
      grown = grown_trans inv.grown c.in_ok-push_pred.ensures.grown;
      picks = same_picks_trans inv.picks c.in_ok-push_pred.ensures.picks;
      facts = c.in_ok-push_pred.ensures.facts;
      number = omega (arith, within);
      adds = listed_more (λ f. IsPredFact c.args.closure.now c.args.table.now c.args.good.now f) c.args.closure.now.arcs n d within
          (c.index-arcs-number.is ∙ ap (λ (vs : List (Node × Name × Node × Set)). get_or vs n d) c.arcs-arcs.ensures) inv.adds c.in_ok-push_pred.ensures.adds;
    }

pub returns-clause-adds : goal.returns-clause-adds
returns-clause-adds c =
    listed_all (λ f. IsPredFact c.args.closure.now c.args.table.now c.args.good.now f) c.args.closure.now.arcs c.loop-number.number (let e = ap length c.arcs-arcs.ensures in omega (arith, e)) c.loop-number.invariant.adds
