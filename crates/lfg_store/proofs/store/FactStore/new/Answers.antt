use Rattle.lfg_store.proofs.Collecting.{empty_store}
use Rattle.lfg_store.proofs.store.FactStore.new.Goals as goal

pub invariant_of-result : goal.invariant_of-result
invariant_of-result c = empty_store
