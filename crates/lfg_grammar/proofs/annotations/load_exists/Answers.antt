use Rattle.lfg_model.specs.Loads.{existential}
use Rattle.lfg_grammar.proofs.annotations.load_exists.Goals as goal

pub returns : goal.returns
returns c = existential c.in_ok-left.ensures
