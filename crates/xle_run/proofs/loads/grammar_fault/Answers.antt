use Rattle.std.proofs.Common.{refl}
use Rattle.lfg_model.specs.Output.{not_thin}
use Rattle.xle_run.proofs.loads.grammar_fault.Goals as goal

-- a file that is loaded and not thin
pub returns-in-Ok : goal.returns-in-Ok
returns-in-Ok c = not_thin c.in-Ok.ensures.loads refl
