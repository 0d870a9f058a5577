use Rattle.std.proofs.Common.{◌≡◌, ◌++◌, length}
use Rattle.lfg_model.specs.EntryNotation.{names_at}
use Rattle.lfg_notation.specs.Views.{named}
use Rattle.lfg_notation.proofs.settings.names_at.Given as goal

abbrev pub invariant-loop-rest : goal.invariant-loop-rest
invariant-loop-rest l = named (l.names.items ++ (names_at l.rest).0) (names_at l.rest).1 ≡ names_at l.lexemes

abbrev pub decreases-loop-rest : goal.decreases-loop-rest
decreases-loop-rest l = length l.rest
