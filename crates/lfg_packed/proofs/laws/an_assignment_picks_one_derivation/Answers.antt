use Rattle.lfg_packed.proofs.Selecting.{one_is_picked_by, some_is_picked_by}
use Rattle.lfg_packed.proofs.laws.an_assignment_picks_one_derivation.Goals as goal

pub returns-clause-one : goal.returns-clause-one
returns-clause-one c = one_is_picked_by

pub returns-clause-some : goal.returns-clause-some
returns-clause-some c = some_is_picked_by
