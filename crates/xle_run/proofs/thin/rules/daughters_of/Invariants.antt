use Rattle.std.proofs.Common.{map, length}
use Rattle.lfg_model.specs.ThinText.{is_nothing, IsDaughter}
use Rattle.xle_run.specs.Drafts.{daughter_view}
use Rattle.xle_run.proofs.Rows.{Reading}
use Rattle.xle_run.proofs.thin.rules.daughters_of.Given as goal

abbrev pub invariant-loop-rest : goal.invariant-loop-rest
invariant-loop-rest l = Reading is_nothing IsDaughter l.items (map daughter_view l.daughters.items) l.rest

abbrev pub decreases-loop-rest : goal.decreases-loop-rest
decreases-loop-rest l = length l.rest
