use Rattle.std.proofs.Common.{◌≡◌, ◌<◌, ℕ, [], true, false, length, sym, ◌∙◌, ap, arith}
use Rattle.lfg_context.proofs.Growing.{grown_trans, same_picks_trans}
use Rattle.lfg_unify.proofs.SweepLaws.{growth_trans, joined_more, joined_all}
use Rattle.lfg_unify.proofs.rounds.join_all.Goals as goal
use Rattle.lfg_unify.proofs.rounds.join_all.Goals.{then-branch, else-branch}

pub loop-place-preserved : goal.loop-place-preserved
loop-place-preserved c =
    let inv = c.loop-place.invariant in
    record {
      grown = grown_trans inv.grown c.in_ok-sweep_row.ensures.grown;
      picks = same_picks_trans inv.picks c.in_ok-sweep_row.ensures.picks;
      len = c.in_ok-sweep_row.ensures.len ∙ inv.len;
      rows = c.in_ok-sweep_row.ensures.rows;
      place = omega arith;
      growth = λ arcs. growth_trans arcs c.args.table.now c.loop-place.table c.sweep_row.new.table (inv.growth arcs) (c.in_ok-sweep_row.ensures.growth arcs);
      joined = joined_more c.loop-place.place c.args.table.now c.loop-place.table c.sweep_row.new.table (inv.growth []).keeps (c.in_ok-sweep_row.ensures.growth []).keeps
          c.in_ok-sweep_row.ensures.joined inv.joined;
      kept = elim c.if-branch.branch [
        | then-branch w ↦ λ e. (let no : true ≡ false = sym w.changed-is ∙ e in absurd (cc))
        | else-branch w ↦ λ e. c.in_ok-sweep_row.ensures.kept w.if-branch.false ∙ inv.kept (sym w.changed-is ∙ e)
      ];
    }

pub returns-clause-joined : goal.returns-clause-joined
returns-clause-joined c = joined_all c.loop-place.place c.args.table.now c.loop-place.table (omega arith) c.loop-place.invariant.joined
