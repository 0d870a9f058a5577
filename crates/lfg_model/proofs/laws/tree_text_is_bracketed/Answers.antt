use Rattle.lfg_model.proofs.BracketLaws as laws
use Rattle.lfg_model.proofs.laws.tree_text_is_bracketed.Goals as goal

pub returns : goal.returns
returns c = laws.tree_text_is_bracketed
