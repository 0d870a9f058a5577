use Rattle.std.proofs.Common.{◌≡◌, ◌<◌, ℕ, length, sym, ◌∙◌, ap, arith}
use Rattle.lfg_context.specs.Seen.{Set}
use Rattle.lfg_context.proofs.Growing.{grown_trans, same_picks_trans}
use Rattle.lfg_unify.proofs.SweepLaws.{growth_trans}
use Rattle.lfg_unify.proofs.SettleLaws.{within_at}
use Rattle.lfg_unify.proofs.classes.merge_given.Goals as goal

pub merge-requires-clause-first : goal.merge-requires-clause-first
merge-requires-clause-first c =
    let w = within_at (λ (e : (ℕ × ℕ) × Set). (e.0.0 < length c.args.table.now) × (e.0.1 < length c.args.table.now)) c.args.given.now c.loop-entry.entry-index c.entry-item.result c.requires.within (omega arith) c.entry-item.is in
    omega (arith, w.0, c.loop-entry.invariant.len)

pub merge-requires-clause-second : goal.merge-requires-clause-second
merge-requires-clause-second c =
    let w = within_at (λ (e : (ℕ × ℕ) × Set). (e.0.0 < length c.args.table.now) × (e.0.1 < length c.args.table.now)) c.args.given.now c.loop-entry.entry-index c.entry-item.result c.requires.within (omega arith) c.entry-item.is in
    omega (arith, w.1, c.loop-entry.invariant.len)

pub loop-entry-preserved : goal.loop-entry-preserved
loop-entry-preserved c =
    let inv = c.loop-entry.invariant in
    let step = c.merge.ensures in
    record {
      grown = grown_trans inv.grown step.grown;
      picks = same_picks_trans inv.picks step.picks;
      len = step.len ∙ inv.len;
      rows = step.rows;
      growth = λ arcs. growth_trans arcs c.args.table.now c.loop-entry.table c.merge.new.table (inv.growth arcs) (c.in_ok-merge.ensures.growth arcs);
    }
