use Rattle.std.proofs.Common.{◌≡◌, ◌<◌, ℕ, [], length, sym, ◌∙◌, ap, arith}
use Rattle.lfg_context.proofs.Growing.{grown_trans, same_picks_trans}
use Rattle.lfg_unify.proofs.SweepLaws.{ascends_entry, growth_trans}
use Rattle.lfg_unify.proofs.classes.spread.Goals as goal

pub reach-requires-clause-place : goal.reach-requires-clause-place
reach-requires-clause-place c =
    let h = ascends_entry (length c.args.table.now) 0 c.args.places.now c.loop-entry.entry-index c.entry-item.result c.requires.places (omega arith) c.entry-item.is in
    omega (arith, h, c.loop-entry.invariant.len)

pub reach-requires-clause-held : goal.reach-requires-clause-held
reach-requires-clause-held c = λ a y s. (c.loop-entry.invariant.growth []).keeps a c.args.second y (c.requires.held a y s)

pub loop-entry-preserved : goal.loop-entry-preserved
loop-entry-preserved c =
    let inv = c.loop-entry.invariant in
    let step = c.reach.ensures in
    record {
      grown = grown_trans inv.grown step.grown;
      picks = same_picks_trans inv.picks step.picks;
      len = step.len ∙ inv.len;
      rows = step.rows;
      growth = λ arcs. growth_trans arcs c.args.table.now c.loop-entry.table c.reach.new.table (inv.growth arcs) (c.in_ok-reach.ensures.growth arcs);
    }
