use Rattle.std.proofs.Common.{take}
use Rattle.lfg_model.specs.Lists.{In}
use Rattle.lfg_model.specs.ThinText.{in_set}
use Rattle.xle_run.proofs.thin.sections.has_in_set.Given as goal

abbrev pub invariant-loop-lexeme : goal.invariant-loop-lexeme
invariant-loop-lexeme l = ¬ In in_set (take l.lexeme-index l.lexemes)
