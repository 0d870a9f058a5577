use Rattle.std.proofs.Common.{◌≡◌, ◌<◌, ℕ, length, sym, ◌∙◌, ap, arith}
use Rattle.lfg_context.proofs.Growing.{grown_trans, same_picks_trans, are_made_grown}
use Rattle.lfg_unify.proofs.SweepLaws.{growth_trans, arc_within, arc_made, arc_in}
use Rattle.lfg_unify.proofs.classes.merge_from.Goals as goal

pub merge_targets-requires-clause-second : goal.merge_targets-requires-clause-second
merge_targets-requires-clause-second c =
    let w = arc_within (length c.args.table.now) c.args.arcs.now c.loop-second.second-index c.second-item.result c.requires.within (omega arith) c.second-item.is in
    (omega (arith, w.0, c.loop-second.invariant.len), omega (arith, w.1, c.loop-second.invariant.len))

pub merge_targets-requires-clause-second_made : goal.merge_targets-requires-clause-second_made
merge_targets-requires-clause-second_made c =
    arc_made c.args.arcs.now c.loop-second.second-index c.second-item.result (are_made_grown c.loop-second.invariant.grown c.requires.made) (omega arith) c.second-item.is

pub loop-second-preserved : goal.loop-second-preserved
loop-second-preserved c =
    let inv = c.loop-second.invariant in
    let step = c.in_ok-merge_targets.ensures in
    record {
      grown = grown_trans inv.grown step.grown;
      picks = same_picks_trans inv.picks step.picks;
      len = step.len ∙ inv.len;
      rows = step.rows;
      growth = λ i. growth_trans c.args.arcs.now c.args.table.now c.loop-second.table c.merge_targets.new.table (inv.growth i)
          (step.growth c.args.arcs.now i (arc_in c.args.arcs.now c.loop-second.second-index c.second-item.result (omega arith) c.second-item.is));
    }
