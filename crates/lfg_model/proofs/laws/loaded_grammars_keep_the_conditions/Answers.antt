use Rattle.lfg_model.proofs.SoundLaws as laws
use Rattle.lfg_model.proofs.laws.loaded_grammars_keep_the_conditions.Goals as goal

pub returns : goal.returns
returns c = record { loaded = laws.loads_gives_loaded; once = laws.loaded_has_no_edge_twice }
