use Rattle.lfg_model.specs.Settings.{no_root}
use Rattle.lfg_grammar.proofs.Keys.{at_entry}
use Rattle.lfg_grammar.proofs.settings.fault_of.Goals as goal

pub returns-in-Some : goal.returns-in-Some
returns-in-Some c = at_entry c.args.settings.now c.in-Some.entry c.in-Some.ensures

pub returns-in-None : goal.returns-in-None
returns-in-None c = no_root c.in_default.ensures (λ r. c.in-None.ensures r.0 r.1)
