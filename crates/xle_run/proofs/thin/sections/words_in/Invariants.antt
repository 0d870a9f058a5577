use Rattle.std.proofs.Common.{map, length}
use Rattle.lfg_model.specs.ThinText.{is_nothing, IsEnded, IsEntry}
use Rattle.xle_run.specs.Drafts.{entry_view}
use Rattle.xle_run.proofs.Rows.{Reading}
use Rattle.xle_run.proofs.thin.sections.words_in.Given as goal

abbrev pub invariant-loop-rest : goal.invariant-loop-rest
invariant-loop-rest l = Reading is_nothing (IsEnded IsEntry) l.entries (map entry_view l.words.items) l.rest

abbrev pub decreases-loop-rest : goal.decreases-loop-rest
decreases-loop-rest l = length l.rest
