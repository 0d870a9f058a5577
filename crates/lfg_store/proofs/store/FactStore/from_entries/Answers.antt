use Rattle.lfg_store.proofs.Collecting.{permuted_made, lists_facts}
use Rattle.lfg_store.proofs.store.FactStore.from_entries.Goals as goal

pub collected-requires-clause-made : goal.collected-requires-clause-made
collected-requires-clause-made c = rw c.as_slice.ensures.value (permuted_made c.args.contexts.now c.args.entries.items _ c.sort_by.ensures.permutation c.requires.made)

pub returns-clause-ok : goal.returns-clause-ok
returns-clause-ok c = λ a.
    rw c.in_ok-shared.ensures.ok
    (lists_facts c.args.entries.items c.sort_by.new.self.items c.in_ok-entries.entries.items c.sort_by.ensures.permutation c.in_ok-entries.ensures.store (rw c.as_slice.ensures.value at c.in_ok-entries.ensures.facts) a)
