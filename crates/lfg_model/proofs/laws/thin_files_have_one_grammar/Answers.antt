use Rattle.lfg_model.proofs.ThinLaws as laws
use Rattle.lfg_model.proofs.laws.thin_files_have_one_grammar.Goals as goal

pub returns : goal.returns
returns c = record { one = laws.one_thin_grammar; thin = laws.thin_file_is_thin }
