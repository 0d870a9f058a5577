use Rattle.std.proofs.Common.{map, take}
use Rattle.lfg_model.specs.DraftForms.{rule_form}
use Rattle.lfg_model.specs.Templates.{Each}
use Rattle.lfg_grammar.specs.Halves.{IsHalf}
use Rattle.lfg_grammar.proofs.rules.load_halves.Given as goal

abbrev pub invariant-loop-rule : goal.invariant-loop-rule
invariant-loop-rule l = Each (IsHalf l.depth) (map rule_form (take l.rule-index l.rules)) l.halves.items
