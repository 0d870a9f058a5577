use Rattle.std.proofs.Common.{◌≡◌, ◌<◌, ℕ, true, false, length, get_or, sym, ◌∙◌, ap, arith}
use Rattle.lfg_context.proofs.Growing.{grown_trans, same_picks_trans}
use Rattle.lfg_unify.specs.Rows.{row_of}
use Rattle.lfg_unify.proofs.SweepLaws.{ascends_entry, takes_more, takes_all}
use Rattle.lfg_unify.proofs.rounds.take_row.Goals as goal
use Rattle.lfg_unify.proofs.rounds.take_row.Goals.{then-branch, else-branch}

pub widen-requires-clause-second : goal.widen-requires-clause-second
widen-requires-clause-second c =
    let e : c.row.result.now ≡ row_of c.args.table.now c.args.second = c.row.ensures.row ∙ c.loop-number.invariant.others c.args.second c.loop-number.invariant.apart in
    ascends_entry (length c.loop-number.table) 0 c.row.result.now c.loop-number.number c.index-row-number.result c.row.ensures.ascends
    (omega (arith, ap length e, ap length c.row-number-end.ensures.row)) c.index-row-number.is

pub loop-number-preserved : goal.loop-number-preserved
loop-number-preserved c =
    let inv = c.loop-number.invariant in
    let e : c.row.result.now ≡ row_of c.args.table.now c.args.second = c.row.ensures.row ∙ inv.others c.args.second inv.apart in
    let h : c.loop-number.number < length (row_of c.args.table.now c.args.second) = omega (arith, ap length c.row-number-end.ensures.row) in
    record {
      grown = grown_trans (grown_trans inv.grown c.in_ok-both.ensures.grown) c.in_ok-widen.ensures.grown;
      picks = same_picks_trans (same_picks_trans inv.picks c.in_ok-both.ensures.picks) c.in_ok-widen.ensures.picks;
      len = c.in_ok-widen.ensures.len ∙ inv.len;
      rows = c.in_ok-widen.ensures.rows;
      others = λ x n. c.in_ok-widen.ensures.others x n ∙ inv.others x n;
      apart = inv.apart;
      number = omega (arith, h);
      step = takes_more (row_of c.args.table.now c.args.first) (row_of c.loop-number.table c.args.first) (row_of c.widen.new.self c.args.first) (row_of c.args.table.now c.args.second)
          c.args.ctx.now c.in_ok-both.both c.loop-number.number c.index-row-number.result h (c.index-row-number.is ∙ ap (λ r. get_or r c.loop-number.number c.index-row-number.result) e)
          c.in_ok-both.ensures.ok.members inv.step c.in_ok-widen.ensures.step;
      kept = elim c.if-branch.branch [
        | then-branch w ↦ λ e. (let no : true ≡ false = sym w.changed-is ∙ e in absurd (cc))
        | else-branch w ↦ λ e. c.in_ok-widen.ensures.kept w.if-branch.false ∙ inv.kept (sym w.changed-is ∙ e)
      ];
    }

pub returns-clause-step : goal.returns-clause-step
returns-clause-step c =
    takes_all (row_of c.args.table.now c.args.first) (row_of c.loop-number.table c.args.first) (row_of c.args.table.now c.args.second) c.args.ctx.now c.loop-number.number
    (omega (arith, ap length c.row-number-end.ensures.row)) c.loop-number.invariant.step
