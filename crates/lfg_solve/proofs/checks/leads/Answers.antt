use Rattle.lfg_solve.proofs.Walks.{LeadsOn-start}
use Rattle.lfg_solve.proofs.checks.leads.Goals as goal

pub loop-attribute-init : goal.loop-attribute-init
loop-attribute-init c = LeadsOn-start _ _ _
