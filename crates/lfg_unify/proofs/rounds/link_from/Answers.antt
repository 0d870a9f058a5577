use Rattle.std.proofs.Common.{◌≡◌, ◌<◌, ℕ, [], ◌∷◌, true, false, length, sym, ◌∙◌, ap, arith}
use Rattle.lfg_model.specs.Lists.{here, later}
use Rattle.lfg_context.proofs.Growing.{grown_trans, same_picks_trans, are_made_grown}
use Rattle.lfg_unify.proofs.SweepLaws.{growth_trans, linked_more, arc_within, arc_made, arc_in}
use Rattle.lfg_unify.proofs.rounds.link_from.Goals as goal
use Rattle.lfg_unify.proofs.rounds.link_from.Goals.{then-branch, else-branch}

pub link-requires-clause-second : goal.link-requires-clause-second
link-requires-clause-second c =
    let w = arc_within (length c.args.table.now) c.args.arcs.now c.loop-second.second-index c.second-item.result c.requires.within (omega arith) c.second-item.is in
    (omega (arith, w.0, c.loop-second.invariant.len), omega (arith, w.1, c.loop-second.invariant.len))

pub link-requires-clause-second_made : goal.link-requires-clause-second_made
link-requires-clause-second_made c =
    arc_made c.args.arcs.now c.loop-second.second-index c.second-item.result (are_made_grown c.loop-second.invariant.grown c.requires.made) (omega arith) c.second-item.is

pub loop-second-preserved : goal.loop-second-preserved
loop-second-preserved c =
    let inv = c.loop-second.invariant in
    let step = c.in_ok-link.ensures in
    let grows = step.growth (c.args.first.now ∷ c.second-item.result ∷ []) here (later here) in
    record {
      grown = grown_trans inv.grown step.grown;
      picks = same_picks_trans inv.picks step.picks;
      len = step.len ∙ inv.len;
      rows = step.rows;
      keeps = λ a i j h. grows.keeps a i j (inv.keeps a i j h);
      growth = λ i. growth_trans c.args.arcs.now c.args.table.now c.loop-second.table c.link.new.table (inv.growth i)
          (step.growth c.args.arcs.now i (arc_in c.args.arcs.now c.loop-second.second-index c.second-item.result (omega arith) c.second-item.is));
      linked = linked_more c.args.first.now c.args.arcs.now c.loop-second.second-index c.second-item.result c.args.table.now c.loop-second.table c.link.new.table
          (omega arith) c.second-item.is inv.keeps grows.keeps step.linked inv.linked;
      kept = elim c.if-branch.branch [
        | then-branch w ↦ λ e. (let no : true ≡ false = sym w.changed-is ∙ e in absurd (cc))
        | else-branch w ↦ λ e. c.in_ok-link.ensures.kept w.if-branch.false ∙ inv.kept (sym w.changed-is ∙ e)
      ];
    }
