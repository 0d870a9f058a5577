use Rattle.std.proofs.Common.{◌≡◌, ◌+◌, ◌*◌, ◌≤◌, drop}
use Rattle.lfg_model.specs.Tokens.{width}
use Rattle.lfg_lexer.proofs.characters.width.Given as goal

abbrev pub invariant-loop-c : goal.invariant-loop-c
invariant-loop-c l = record { same : l.sum + width (drop l.c-index l.chars) ≡ width l.chars; few : l.sum ≤ 4 * l.c-index }
