use Rattle.std.proofs.Common.{◌<◌, ◌≤◌, List, length, subst, arith}
use Rattle.lfg_terms.specs.declared.node.Node.{Node}
use Rattle.lfg_model.specs.Terms.{Name}
use Rattle.lfg_context.specs.Seen.{Set}
use Rattle.lfg_context.proofs.Growing.{grown_trans, same_picks_trans, are_made_grown, made_at}
use Rattle.lfg_constrain.proofs.Classes.{some_closure_grown, value_at, arc_at}
use Rattle.lfg_constrain.specs.Spots.{Steps}
use Rattle.lfg_constrain.proofs.SpotLaws.{steps_more, steps_all}
use Rattle.lfg_constrain.proofs.walks.step.Goals as goal

pub follow-requires-clause-arc : goal.follow-requires-clause-arc
follow-requires-clause-arc c =
    arc_at c.arcs-arcs.result.now c.loop-number.number c.index-arcs-number.result (some_closure_grown c.loop-number.invariant.grown c.requires.closure) c.arcs-arcs.ensures (omega arith) c.index-arcs-number.is

pub loop-number-preserved : goal.loop-number-preserved
loop-number-preserved c = record {
  grown = grown_trans c.loop-number.invariant.grown c.follow.ensures.grown;
  picks = same_picks_trans c.loop-number.invariant.picks c.follow.ensures.picks;
  spots = c.in_ok-follow.ensures.found;
  steps = steps_more c.args.closure.now c.arcs-arcs.result.now c.args.spots.now c.args.name.now c.loop-number.found.items c.follow.new.found.items c.loop-number.number c.index-arcs-number.result (omega arith) c.index-arcs-number.is
      c.in_ok-follow.ensures.takes c.loop-number.invariant.steps;
}

pub returns-clause-steps : goal.returns-clause-steps
returns-clause-steps c =
    let P : List (Node × Name × Node × Set) → Type 0 = λ v. Steps c.args.closure.now v c.args.spots.now c.args.name.now c.loop-number.found.items in
    subst P c.arcs-arcs.ensures (steps_all c.args.closure.now c.arcs-arcs.result.now c.args.spots.now c.args.name.now c.loop-number.number c.loop-number.found.items (omega arith) c.loop-number.invariant.steps)
