use Rattle.std.proofs.Common.{◌≡◌, take, drop}
use Rattle.lfg_model.specs.EntryNotation.{cut}
use Rattle.lfg_notation.proofs.PieceLaws.{in_piece}
use Rattle.lfg_notation.proofs.cutting.first_piece.Given as goal

abbrev pub invariant-loop-i : goal.invariant-loop-i
invariant-loop-i l = cut l.separator l.lexemes ≡ in_piece (take l.i l.lexemes) (cut l.separator (drop l.i l.lexemes))
