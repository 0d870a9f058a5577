use Rattle.std.proofs.Common.{◌≡◌, ◌<◌, ℕ, length, sym, ◌∙◌, ap, arith}
use Rattle.lfg_context.proofs.Growing.{grown_trans, same_picks_trans, are_made_grown}
use Rattle.lfg_unify.proofs.SweepLaws.{growth_trans, arc_within, arc_made, arc_in}
use Rattle.lfg_unify.proofs.classes.merge_linked.Goals as goal

pub merge_from-requires-clause-first : goal.merge_from-requires-clause-first
merge_from-requires-clause-first c =
    let w = arc_within (length c.args.table.now) c.args.arcs.now c.loop-first.first-index c.first-item.result c.requires.within (omega arith) c.first-item.is in
    (omega (arith, w.0, c.loop-first.invariant.len), omega (arith, w.1, c.loop-first.invariant.len))

pub merge_from-requires-clause-first_made : goal.merge_from-requires-clause-first_made
merge_from-requires-clause-first_made c =
    arc_made c.args.arcs.now c.loop-first.first-index c.first-item.result (are_made_grown c.loop-first.invariant.grown c.requires.made) (omega arith) c.first-item.is

pub loop-first-preserved : goal.loop-first-preserved
loop-first-preserved c =
    let inv = c.loop-first.invariant in
    let step = c.in_ok-merge_from.ensures in
    record {
      grown = grown_trans inv.grown step.grown;
      picks = same_picks_trans inv.picks step.picks;
      len = step.len ∙ inv.len;
      rows = step.rows;
      growth = growth_trans c.args.arcs.now c.args.table.now c.loop-first.table c.merge_from.new.table inv.growth
          (step.growth (arc_in c.args.arcs.now c.loop-first.first-index c.first-item.result (omega arith) c.first-item.is));
    }
