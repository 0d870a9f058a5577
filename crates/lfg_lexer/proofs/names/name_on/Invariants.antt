use Rattle.std.proofs.Common.{◌≡◌, length}
use Rattle.std.specs.String.{string_bytes}
use Rattle.lfg_model.specs.Pieces.{name_on}
use Rattle.lfg_lexer.specs.Seen.{added}
use Rattle.lfg_lexer.proofs.names.name_on.Given as goal

abbrev pub invariant-loop-c : goal.invariant-loop-c
invariant-loop-c l = added (string_bytes l.text) (name_on l.rest) ≡ added (string_bytes l.fn.text) (name_on l.chars)

abbrev pub decreases-loop-c : goal.decreases-loop-c
decreases-loop-c l = length l.rest
