use Rattle.std.proofs.Common.{take}
use Rattle.lfg_model.specs.Loads.{IsUnaryCycle}
use Rattle.lfg_model.specs.TemplateRules.{NoneHas}
use Rattle.lfg_grammar.proofs.cycles.first_on_cycle.Given as goal

abbrev pub invariant-loop-place : goal.invariant-loop-place
invariant-loop-place l = NoneHas (IsUnaryCycle l.grammar) (take l.place l.grammar.rules)
