use Rattle.std.proofs.Common.{◌≡◌, ◌<◌, ℕ, true, false, length, sym, ◌∙◌, ap, arith}
use Rattle.lfg_context.proofs.Growing.{grown_trans, same_picks_trans, are_made_grown}
use Rattle.lfg_unify.proofs.SweepLaws.{growth_trans, links_more, arc_within, arc_made, arc_in}
use Rattle.lfg_unify.proofs.rounds.link_all.Goals as goal
use Rattle.lfg_unify.proofs.rounds.link_all.Goals.{then-branch, else-branch}

pub link_from-requires-clause-first : goal.link_from-requires-clause-first
link_from-requires-clause-first c =
    let w = arc_within (length c.args.table.now) c.args.arcs.now c.loop-first.first-index c.first-item.result c.requires.within (omega arith) c.first-item.is in
    (omega (arith, w.0, c.loop-first.invariant.len), omega (arith, w.1, c.loop-first.invariant.len))

pub link_from-requires-clause-first_made : goal.link_from-requires-clause-first_made
link_from-requires-clause-first_made c =
    arc_made c.args.arcs.now c.loop-first.first-index c.first-item.result (are_made_grown c.loop-first.invariant.grown c.requires.made) (omega arith) c.first-item.is

pub loop-first-preserved : goal.loop-first-preserved
loop-first-preserved c =
    let inv = c.loop-first.invariant in
    let step = c.in_ok-link_from.ensures in
    let grows = step.growth (arc_in c.args.arcs.now c.loop-first.first-index c.first-item.result (omega arith) c.first-item.is) in
    record {
      grown = grown_trans inv.grown step.grown;
      picks = same_picks_trans inv.picks step.picks;
      len = step.len ∙ inv.len;
      rows = step.rows;
      growth = growth_trans c.args.arcs.now c.args.table.now c.loop-first.table c.link_from.new.table inv.growth grows;
      linked = links_more c.args.arcs.now c.args.arcs.now c.loop-first.first-index c.first-item.result c.args.table.now c.loop-first.table c.link_from.new.table
          (omega arith) c.first-item.is inv.growth.keeps grows.keeps step.linked inv.linked;
      kept = elim c.if-branch.branch [
        | then-branch w ↦ λ e. (let no : true ≡ false = sym w.changed-is ∙ e in absurd (cc))
        | else-branch w ↦ λ e. c.in_ok-link_from.ensures.kept w.if-branch.false ∙ inv.kept (sym w.changed-is ∙ e)
      ];
    }
