use Rattle.std.proofs.Common.{◌≡◌, drop}
use Rattle.lfg_unify.specs.Closures.{context_in}
use Rattle.lfg_unify.proofs.closure.context_at.Given as goal

abbrev pub invariant-loop-entry : goal.invariant-loop-entry
invariant-loop-entry l = context_in l.empty l.row l.place ≡ context_in l.empty (drop l.entry-index l.row) l.place
