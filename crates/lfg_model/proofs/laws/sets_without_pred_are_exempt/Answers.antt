use Rattle.lfg_model.proofs.ExampleLaws as laws
use Rattle.lfg_model.proofs.laws.sets_without_pred_are_exempt.Goals as goal

pub returns : goal.returns
returns c = laws.sets_without_pred_are_exempt
