use Rattle.std.proofs.Common.{◌<◌, ℕ, length, sym, ◌∙◌, subst, arith}
use Rattle.lfg_model.proofs.ListLaws.{In-at}
use Rattle.lfg_model.specs.Lists.{In}
use Rattle.lfg_context.specs.Seen.{Set}
use Rattle.lfg_context.proofs.Growing.{grown_trans, same_picks_trans, are_made_grown, pair_made_at}
use Rattle.lfg_unify.proofs.SettleLaws.{there_more, within_at}
use Rattle.lfg_unify.proofs.settle.place_there.Goals as goal

pub widen-requires-clause-first : goal.widen-requires-clause-first
widen-requires-clause-first c =
    let w = within_at (λ (e : ℕ × Set). e.0 < length c.args.table.now) c.args.there.now c.loop-entry.entry-index c.entry-item.result c.requires.within (omega arith) c.entry-item.is in
    omega (arith, w, c.loop-entry.invariant.len)

pub widen-requires-clause-second : goal.widen-requires-clause-second
widen-requires-clause-second c =
    let w = within_at (λ (e : ℕ × Set). e.0 < length c.args.table.now) c.args.there.now c.loop-entry.entry-index c.entry-item.result c.requires.within (omega arith) c.entry-item.is in
    omega (arith, w, c.loop-entry.invariant.len)

pub widen-requires-clause-made : goal.widen-requires-clause-made
widen-requires-clause-made c = pair_made_at c.loop-entry.entry-index c.entry-item.result (are_made_grown c.loop-entry.invariant.grown c.requires.made) (omega arith) c.entry-item.is

pub loop-entry-preserved : goal.loop-entry-preserved
loop-entry-preserved c =
    let inv = c.loop-entry.invariant in
    let step = c.widen.ensures in
    record {
      grown = grown_trans inv.grown step.grown;
      picks = same_picks_trans inv.picks step.picks;
      len = step.len ∙ inv.len;
      rows = step.rows;
      adds = there_more c.args.there.now c.loop-entry.entry-index c.entry-item.result c.args.table.now c.loop-entry.table c.widen.new.self (omega arith) c.entry-item.is
          step.others c.in_ok-widen.ensures.step inv.adds;
    }
