use Rattle.std.proofs.Common.{◌≡◌, ◌++◌, drop}
use Rattle.lfg_model.specs.PathExpressions.{expressions_of}
use Rattle.lfg_regpath.specs.PlainRows.{rows_string}
use Rattle.lfg_regpath.proofs.plain_row.+attributes.Given as goal

abbrev pub invariant-push_rows-loop-part : goal.invariant-push_rows-loop-part
invariant-push_rows-loop-part l = l.names.items ++ rows_string (expressions_of (drop l.part-index l.parts)) ≡ l.initial.names.items ++ rows_string (expressions_of l.parts)
