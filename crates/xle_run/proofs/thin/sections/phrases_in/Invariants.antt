use Rattle.std.proofs.Common.{map, length}
use Rattle.lfg_model.specs.ThinText.{is_nothing, IsEnded, IsPhrase}
use Rattle.xle_run.specs.Drafts.{phrase_view}
use Rattle.xle_run.proofs.Rows.{Reading}
use Rattle.xle_run.proofs.thin.sections.phrases_in.Given as goal

abbrev pub invariant-loop-rest : goal.invariant-loop-rest
invariant-loop-rest l = Reading is_nothing (IsEnded IsPhrase) l.entries (map phrase_view l.phrases.items) l.rest

abbrev pub decreases-loop-rest : goal.decreases-loop-rest
decreases-loop-rest l = length l.rest
