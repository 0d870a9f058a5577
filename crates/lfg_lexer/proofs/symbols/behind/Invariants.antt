use Rattle.std.proofs.Common.{◌≡◌, length}
use Rattle.lfg_model.specs.Pieces.{behind}
use Rattle.lfg_lexer.proofs.symbols.behind.Given as goal

abbrev pub invariant-loop-text : goal.invariant-loop-text
invariant-loop-text l = behind l.text l.chars ≡ behind l.fn.text l.fn.chars

abbrev pub decreases-loop-text : goal.decreases-loop-text
decreases-loop-text l = length l.text
