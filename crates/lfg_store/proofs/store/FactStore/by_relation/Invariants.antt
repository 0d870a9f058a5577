use Rattle.std.proofs.Common.{◌≡◌, ◌++◌, drop}
use Rattle.std.specs.Prelude.{filter}
use Rattle.lfg_store.specs.Facts.{is_of}
use Rattle.lfg_store.proofs.store.FactStore.by_relation.Given as goal

abbrev pub invariant-loop-entry : goal.invariant-loop-entry
invariant-loop-entry l =
    l.found.items ++ filter (λ e. is_of l.rel e.0) (drop l.entry-index l.entries) ≡ filter (λ e. is_of l.rel e.0) l.entries
