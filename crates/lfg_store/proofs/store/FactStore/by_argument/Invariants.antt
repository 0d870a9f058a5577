use Rattle.std.proofs.Common.{◌≡◌, ◌++◌, drop}
use Rattle.std.specs.Prelude.{filter}
use Rattle.lfg_store.specs.Facts.{has_argument}
use Rattle.lfg_store.proofs.store.FactStore.by_argument.Given as goal

abbrev pub invariant-loop-entry : goal.invariant-loop-entry
invariant-loop-entry l =
    l.found.items ++ filter (λ e. has_argument l.rel l.place l.arg e.0) (drop l.entry-index l.entries) ≡ filter (λ e. has_argument l.rel l.place l.arg e.0) l.entries
