use Rattle.std.proofs.Common.{◌≤◌, length, take}
use Rattle.lfg_context.specs.Sets.{IsGrown, HasSamePicks}
use Rattle.lfg_store.specs.Facts.{IsStore}
use Rattle.lfg_store.specs.Edits.{HasFactsOf}
use Rattle.lfg_store.specs.Packing.{AreMadeBy}
use Rattle.lfg_store.proofs.entries.collected.Given as goal

abbrev pub invariant-loop-entry : goal.invariant-loop-entry
invariant-loop-entry l = record {
  made : AreMadeBy l.contexts l.entries;
  store_made : AreMadeBy l.contexts l.store.items;
  grown : IsGrown l.fn.contexts l.contexts;
  picks : HasSamePicks l.fn.contexts l.contexts;
  store : IsStore l.store.items;
  few : length l.store.items ≤ l.entry-index;
  facts : HasFactsOf (take l.entry-index l.entries) l.store.items;
}
