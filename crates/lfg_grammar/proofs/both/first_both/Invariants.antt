use Rattle.std.proofs.Common.{take}
use Rattle.lfg_model.specs.Loads.{HasWords}
use Rattle.lfg_model.specs.TemplateRules.{NoneHas}
use Rattle.lfg_grammar.proofs.both.first_both.Given as goal

abbrev pub invariant-loop-i : goal.invariant-loop-i
invariant-loop-i l = NoneHas (HasWords l.grammar) (take l.i l.rules)
