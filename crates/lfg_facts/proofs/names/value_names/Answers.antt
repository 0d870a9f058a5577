use Rattle.std.proofs.Common.{◌<◌, ◌∙◌, List, length, get_or, ap, arith}
use Rattle.lfg_terms.specs.declared.node.Node.{Node}
use Rattle.lfg_model.specs.declared.constant.Constant.{Constant}
use Rattle.lfg_context.specs.Seen.{Set}
use Rattle.lfg_context.proofs.Growing.{grown_trans, same_picks_trans, are_made_grown, made_at}
use Rattle.lfg_facts.specs.Naming.{IsValueName}
use Rattle.lfg_facts.proofs.AddLaws.{listed_more, listed_all}
use Rattle.lfg_facts.proofs.names.value_names.Goals as goal

pub push_value_name-requires-clause-value : goal.push_value_name-requires-clause-value
push_value_name-requires-clause-value c =
    let n = c.loop-number.number in
    let d = c.index-values-number.result in
    made_at n d (are_made_grown c.loop-number.invariant.grown c.requires.closure.is.made.values) (let e = ap length c.values-values.ensures in omega (arith, e))
    (c.index-values-number.is ∙ ap (λ (vs : List (Node × Constant × Set)). get_or vs n d) c.values-values.ensures)

pub loop-number-preserved : goal.loop-number-preserved
loop-number-preserved c =
    let n = c.loop-number.number in
    let d = c.index-values-number.result in
    let inv = c.loop-number.invariant in
    let within : n < length c.args.closure.now.values = (let e = ap length c.values-values.ensures in omega (arith, e)) in
    record {
      grown = grown_trans inv.grown c.in_ok-push_value_name.ensures.grown;
      picks = same_picks_trans inv.picks c.in_ok-push_value_name.ensures.picks;
      made = c.in_ok-push_value_name.ensures.names;
      number = omega (arith, within);
      adds = listed_more (λ name. IsValueName c.args.closure.now c.args.place name) c.args.closure.now.values n d within
          (c.index-values-number.is ∙ ap (λ (vs : List (Node × Constant × Set)). get_or vs n d) c.values-values.ensures) inv.adds c.in_ok-push_value_name.ensures.adds;
    }

pub returns-clause-adds : goal.returns-clause-adds
returns-clause-adds c =
    listed_all (λ name. IsValueName c.args.closure.now c.args.place name) c.args.closure.now.values c.loop-number.number (let e = ap length c.values-values.ensures in omega (arith, e)) c.loop-number.invariant.adds
