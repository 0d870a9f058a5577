use Rattle.std.proofs.Common.{map, length}
use Rattle.lfg_model.specs.ThinText.{is_entry_end, IsEquation}
use Rattle.xle_run.specs.Drafts.{equation_view}
use Rattle.xle_run.proofs.Rows.{Reading}
use Rattle.xle_run.proofs.thin.lexicon.equations_of.Given as goal

abbrev pub invariant-loop-rest : goal.invariant-loop-rest
invariant-loop-rest l = Reading is_entry_end IsEquation l.lexemes (map equation_view l.equations.items) l.rest

abbrev pub decreases-loop-rest : goal.decreases-loop-rest
decreases-loop-rest l = length l.rest
