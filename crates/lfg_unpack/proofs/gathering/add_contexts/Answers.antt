use Rattle.std.proofs.Common.{rules, arith}
use Rattle.lfg_context.proofs.Growing.{growing}
use Rattle.lfg_unpack.proofs.Splitting.{gathers_none, gathers_more, gathers_all}
use Rattle.lfg_unpack.proofs.gathering.add_contexts.Goals as goal

pub loop-entry-init : goal.loop-entry-init
loop-entry-init c = record { sets_made = search (rules, growing); gathers = gathers_none c.args.sets.now.items }

pub loop-entry-preserved : goal.loop-entry-preserved
loop-entry-preserved c = record {
  sets_made = search (rules, growing);
  gathers = gathers_more c.args.entries.now c.loop-entry.entry-index c.entry-item.result _ _ _ (omega arith) c.entry-item.is c.loop-entry.invariant.gathers c.in_ok-add_context.ensures.gathers;
}

pub returns-clause-gathers : goal.returns-clause-gathers
returns-clause-gathers c = gathers_all c.args.entries.now c.loop-entry.entry-index _ c.loop-entry.sets.items (omega arith) c.loop-entry.invariant.gathers
