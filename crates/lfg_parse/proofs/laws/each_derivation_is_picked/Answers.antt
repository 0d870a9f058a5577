use Rattle.lfg_parse.proofs.Picking.{all_are_picked}
use Rattle.lfg_parse.proofs.laws.each_derivation_is_picked.Goals as goal

pub returns : goal.returns
returns c = all_are_picked
