use Rattle.std.proofs.Common.{◌≡◌, length}
use Rattle.lfg_model.specs.Pieces.{comment_at}
use Rattle.lfg_lexer.proofs.pieces.comment_at.Given as goal

abbrev pub invariant-loop-rest : goal.invariant-loop-rest
invariant-loop-rest l = comment_at l.rest ≡ comment_at l.chars

abbrev pub decreases-loop-rest : goal.decreases-loop-rest
decreases-loop-rest l = length l.rest
