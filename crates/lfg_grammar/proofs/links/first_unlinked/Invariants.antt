use Rattle.std.proofs.Common.{take}
use Rattle.lfg_model.specs.Loads.{IsUnlinked}
use Rattle.lfg_model.specs.TemplateRules.{NoneHas}
use Rattle.lfg_grammar.proofs.links.first_unlinked.Given as goal

abbrev pub invariant-loop-i : goal.invariant-loop-i
invariant-loop-i l = NoneHas IsUnlinked (take l.i l.rules)
