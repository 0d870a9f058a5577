use Rattle.lfg_model.proofs.LoadLaws as laws
use Rattle.lfg_model.proofs.laws.a_file_has_one_loaded_grammar.Goals as goal

pub returns : goal.returns
returns c = laws.one_loaded_grammar
