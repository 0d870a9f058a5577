use Rattle.std.proofs.Common.{rules, arith}
use Rattle.lfg_context.proofs.Growing.{growing, pair_made_at}
use Rattle.lfg_store.proofs.Collecting.{empty_store, none_yet, more_facts, all_facts}
use Rattle.lfg_store.proofs.entries.collected.Goals as goal

pub loop-entry-init : goal.loop-entry-init
loop-entry-init c = record {
  made = search (rules, growing);
  store_made = search (rules, growing);
  grown = search (rules, growing);
  picks = search (rules, growing);
  store = rw c.new-store.ensures.items empty_store;
  few = search rules;
  facts = rw c.new-store.ensures.items none_yet;
}

pub edit_entries-requires : goal.edit_entries-requires
edit_entries-requires c = record {
  store = c.loop-entry.invariant.store;
  room = omega arith;
  made = c.loop-entry.invariant.store_made;
  ctx_made = pair_made_at c.loop-entry.entry-index c.entry-item.result c.loop-entry.invariant.made (omega arith) c.entry-item.is;
}

pub loop-entry-preserved : goal.loop-entry-preserved
loop-entry-preserved c = record {
  made = search (rules, growing);
  store_made = search (rules, growing);
  grown = search (rules, growing);
  picks = search (rules, growing);
  store = c.in_ok-edit_entries.ensures.ok.store;
  few = (let g = c.in_ok-edit_entries.ensures.ok.growth in omega arith);
  facts = more_facts c.args.entries.now c.loop-entry.entry-index c.entry-item.result _ _ (omega arith) c.entry-item.is c.loop-entry.invariant.facts c.in_ok-edit_entries.ensures.ok;
}

pub returns-clause-facts : goal.returns-clause-facts
returns-clause-facts c = all_facts c.args.entries.now c.loop-entry.entry-index c.loop-entry.store.items (omega arith) c.loop-entry.invariant.facts
