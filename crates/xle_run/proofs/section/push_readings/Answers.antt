use Rattle.std.proofs.Common.{sym, subst, ◌∙◌}
use Rattle.lfg_model.specs.ThinText.{words}
use Rattle.lfg_model.specs.ThinTrees.{HaveOwnForms}
use Rattle.lfg_model.proofs.ThinTreeLaws.{own_forms}
use Rattle.xle_run.proofs.section.push_readings.Goals as goal

pub only_reading-requires-clause-own_forms : goal.only_reading-requires-clause-own_forms
only_reading-requires-clause-own_forms c = subst HaveOwnForms (sym (c.deref.ensures.value ∙ c.in_ok-tokens.ensures)) (own_forms (words c.args.line.now))
