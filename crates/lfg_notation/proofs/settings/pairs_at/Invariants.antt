use Rattle.std.proofs.Common.{◌≡◌, length}
use Rattle.lfg_model.specs.EntryNotation.{pairs_at}
use Rattle.lfg_notation.proofs.PieceLaws.{after}
use Rattle.lfg_notation.proofs.settings.pairs_at.Given as goal

abbrev pub invariant-loop-rest : goal.invariant-loop-rest
invariant-loop-rest l = after l.names.items (pairs_at l.rest) ≡ pairs_at l.lexemes

abbrev pub decreases-loop-rest : goal.decreases-loop-rest
decreases-loop-rest l = length l.rest
