use Rattle.std.proofs.Common.{◌<◌, ℕ, length, sym, ◌∙◌, subst, arith}
use Rattle.lfg_context.specs.Seen.{Set}
use Rattle.lfg_context.proofs.Growing.{made_grown, grown_trans, same_picks_trans, are_made_grown, made_at}
use Rattle.lfg_unify.proofs.SettleLaws.{given_more, within_at}
use Rattle.lfg_unify.proofs.settle.place_given.Goals as goal

pub widen-requires-clause-first : goal.widen-requires-clause-first
widen-requires-clause-first c =
    let w = within_at (λ (e : (ℕ × ℕ) × Set). (e.0.0 < length c.args.table.now) × (e.0.1 < length c.args.table.now)) c.args.given.now c.loop-entry.entry-index c.entry-item.result c.requires.within (omega arith) c.entry-item.is in
    omega (arith, w.0, c.loop-entry.invariant.len)

pub widen-requires-clause-second : goal.widen-requires-clause-second
widen-requires-clause-second c =
    let w = within_at (λ (e : (ℕ × ℕ) × Set). (e.0.0 < length c.args.table.now) × (e.0.1 < length c.args.table.now)) c.args.given.now c.loop-entry.entry-index c.entry-item.result c.requires.within (omega arith) c.entry-item.is in
    omega (arith, w.1, c.loop-entry.invariant.len)

pub widen-requires-clause-made : goal.widen-requires-clause-made
widen-requires-clause-made c = made_at c.loop-entry.entry-index c.entry-item.result (are_made_grown c.loop-entry.invariant.grown c.requires.made) (omega arith) c.entry-item.is

pub widen-requires-in-loop-entry-clause-first : goal.widen-requires-in-loop-entry-clause-first
widen-requires-in-loop-entry-clause-first c =
    let w = within_at (λ (e : (ℕ × ℕ) × Set). (e.0.0 < length c.args.table.now) × (e.0.1 < length c.args.table.now)) c.args.given.now c.loop-entry.entry-index c.entry-item.result c.requires.within (omega arith) c.entry-item.is in
    omega (arith, w.1, c.loop-entry.invariant.len, c.widen.ensures.len)

pub widen-requires-in-loop-entry-clause-second : goal.widen-requires-in-loop-entry-clause-second
widen-requires-in-loop-entry-clause-second c =
    let w = within_at (λ (e : (ℕ × ℕ) × Set). (e.0.0 < length c.args.table.now) × (e.0.1 < length c.args.table.now)) c.args.given.now c.loop-entry.entry-index c.entry-item.result c.requires.within (omega arith) c.entry-item.is in
    omega (arith, w.0, c.loop-entry.invariant.len, c.widen.ensures.len)

pub widen-requires-in-loop-entry-clause-made : goal.widen-requires-in-loop-entry-clause-made
widen-requires-in-loop-entry-clause-made c =
    made_grown c.widen.ensures.grown (made_at c.loop-entry.entry-index c.entry-item.result (are_made_grown c.loop-entry.invariant.grown c.requires.made) (omega arith) c.entry-item.is)

pub loop-entry-preserved : goal.loop-entry-preserved
loop-entry-preserved c =
    let inv = c.loop-entry.invariant in
    record {
      grown = grown_trans (grown_trans inv.grown c.widen.ensures.grown) c.widen-in-loop-entry.ensures.grown;
      picks = same_picks_trans (same_picks_trans inv.picks c.widen.ensures.picks) c.widen-in-loop-entry.ensures.picks;
      len = c.widen-in-loop-entry.ensures.len ∙ c.widen.ensures.len ∙ inv.len;
      rows = c.widen-in-loop-entry.ensures.rows;
      adds = given_more c.args.given.now c.loop-entry.entry-index c.entry-item.result c.args.table.now c.loop-entry.table c.widen.new.self c.widen-in-loop-entry.new.self (omega arith) c.entry-item.is
          c.widen.ensures.others c.in_ok-widen.ensures.step c.widen-in-loop-entry.ensures.others c.in_ok-widen-2.ensures.step inv.adds;
    }
