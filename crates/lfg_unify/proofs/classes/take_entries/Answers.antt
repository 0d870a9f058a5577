use Rattle.std.proofs.Common.{◌≡◌, ◌<◌, ℕ, length, sym, ◌∙◌, ap, arith}
use Rattle.lfg_context.proofs.Growing.{grown_trans, same_picks_trans}
use Rattle.lfg_unify.specs.Rows.{row_of}
use Rattle.lfg_unify.proofs.SweepLaws.{ascends_entry, takes_more}
use Rattle.lfg_unify.proofs.classes.take_entries.Goals as goal

pub widen-requires-clause-second : goal.widen-requires-clause-second
widen-requires-clause-second c =
    let h = ascends_entry (length c.args.table.now) 0 c.args.row.now c.loop-entry.entry-index c.entry-item.result c.requires.within (omega arith) c.entry-item.is in
    omega (arith, h, c.loop-entry.invariant.len)

pub loop-entry-preserved : goal.loop-entry-preserved
loop-entry-preserved c =
    let inv = c.loop-entry.invariant in
    record {
      grown = grown_trans (grown_trans inv.grown c.in_ok-both.ensures.grown) c.widen.ensures.grown;
      picks = same_picks_trans (same_picks_trans inv.picks c.in_ok-both.ensures.picks) c.widen.ensures.picks;
      len = c.widen.ensures.len ∙ inv.len;
      rows = c.widen.ensures.rows;
      others = λ x n. c.widen.ensures.others x n ∙ inv.others x n;
      step = takes_more (row_of c.args.table.now c.args.place) (row_of c.loop-entry.table c.args.place) (row_of c.widen.new.self c.args.place) c.args.row.now
          c.args.ctx.now c.in_ok-both.both c.loop-entry.entry-index c.entry-item.result (omega arith) c.entry-item.is
          c.in_ok-both.ensures.ok.members inv.step c.in_ok-widen.ensures.step;
    }
