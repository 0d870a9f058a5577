use Rattle.lfg_model.specs.ThinText.{IsEntry}
use Rattle.xle_run.proofs.Forms.{none_ended}
use Rattle.xle_run.proofs.thin.lexicon.entry_at.Goals as goal

pub returns-in-None-clause-read : goal.returns-in-None-clause-read
returns-in-None-clause-read c = none_ended IsEntry c.args.lexemes.now c.in-Some.entry.now c.in-Some.behind.now (rw c.in-Some.is at c.up_to_stop.ensures.read) (rw c.in-None.is at c.in_ok-entry.ensures)
