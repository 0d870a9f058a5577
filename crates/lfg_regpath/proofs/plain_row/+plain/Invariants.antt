use Rattle.std.proofs.Common.{◌≡◌, drop}
use Rattle.lfg_model.specs.PathExpressions.{are_plain_rows, expressions_of}
use Rattle.lfg_regpath.proofs.plain_row.+plain.Given as goal

abbrev pub invariant-are_plain_rows-loop-part : goal.invariant-are_plain_rows-loop-part
invariant-are_plain_rows-loop-part l = are_plain_rows (expressions_of (drop l.part-index l.parts)) ≡ are_plain_rows (expressions_of l.parts)
