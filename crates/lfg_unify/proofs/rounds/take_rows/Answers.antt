use Rattle.std.proofs.Common.{◌≡◌, ◌<◌, ℕ, true, false, length, get_or, sym, ◌∙◌, ap, arith}
use Rattle.lfg_context.proofs.Growing.{grown_trans, same_picks_trans}
use Rattle.lfg_unify.specs.Rows.{row_of}
use Rattle.lfg_unify.proofs.SweepLaws.{ascends_entry, sweeps_more}
use Rattle.lfg_unify.proofs.rounds.take_rows.Goals as goal
use Rattle.lfg_unify.proofs.rounds.take_rows.Goals.{then-branch, else-branch}

pub take_row-requires-clause-second : goal.take_row-requires-clause-second
take_row-requires-clause-second c =
    let h = ascends_entry (length c.args.table.now) 0 c.args.row.now c.loop-entry.entry-index c.entry-item.result c.requires.within (omega arith) c.entry-item.is in
    omega (arith, h, c.loop-entry.invariant.len)

pub loop-entry-preserved : goal.loop-entry-preserved
loop-entry-preserved c =
    let inv = c.loop-entry.invariant in
    record {
      grown = grown_trans inv.grown c.in_ok-take_row.ensures.grown;
      picks = same_picks_trans inv.picks c.in_ok-take_row.ensures.picks;
      len = c.in_ok-take_row.ensures.len ∙ inv.len;
      rows = c.in_ok-take_row.ensures.rows;
      others = λ x n. c.in_ok-take_row.ensures.others x n ∙ inv.others x n;
      step = sweeps_more c.args.table.now c.loop-entry.table c.args.place c.args.row.now (row_of c.take_row.new.table c.args.place) c.loop-entry.entry-index c.entry-item.result
          (omega arith) c.entry-item.is inv.others inv.step c.in_ok-take_row.ensures.step;
      kept = elim c.if-branch.branch [
        | then-branch w ↦ λ e. (let no : true ≡ false = sym w.changed-is ∙ e in absurd (cc))
        | else-branch w ↦ λ e. c.in_ok-take_row.ensures.kept w.if-branch.false ∙ inv.kept (sym w.changed-is ∙ e)
      ];
    }
