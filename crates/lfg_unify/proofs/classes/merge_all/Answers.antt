use Rattle.std.proofs.Common.{◌≡◌, ◌<◌, ℕ, length, sym, ◌∙◌, ap, subst, arith}
use Rattle.lfg_context.proofs.Growing.{grown_trans, same_picks_trans}
use Rattle.lfg_unify.proofs.SweepLaws.{growth_trans}
use Rattle.lfg_unify.proofs.classes.merge_all.Goals as goal

pub loop-turn-init : goal.loop-turn-init
loop-turn-init c =
    let step = c.merge_given.ensures in
    record {
      grown = step.grown;
      picks = step.picks;
      len = step.len;
      rows = step.rows;
      growth = c.in_ok-merge_given.ensures.growth c.args.arcs.now;
    }

pub loop-turn-preserved : goal.loop-turn-preserved
loop-turn-preserved c =
    let inv = c.loop-turn.invariant in
    let step = c.in_ok-merge_linked.ensures in
    record {
      grown = grown_trans inv.grown step.grown;
      picks = same_picks_trans inv.picks step.picks;
      len = step.len ∙ inv.len;
      rows = step.rows;
      growth = growth_trans c.args.arcs.now c.args.table.now c.loop-turn.table c.merge_linked.new.table inv.growth step.growth;
    }

pub returns-then-not-branch-clause-growth : goal.returns-then-not-branch-clause-growth
returns-then-not-branch-clause-growth c =
    growth_trans c.args.arcs.now c.args.table.now c.loop-turn.table c.merge_linked.new.table c.loop-turn.invariant.growth c.in_ok-merge_linked.ensures.growth
