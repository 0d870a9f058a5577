use Rattle.std.proofs.Common.{◌≡◌, [], take}
use Rattle.lfg_model.specs.Lists.{In}
use Rattle.lfg_terms.specs.declared.grammar.Lex.{Lex}
use Rattle.lfg_terms.specs.declared.grammar.Rule.{Rule}
use Rattle.lfg_chart.specs.Checked.{IsPlainRule}
use Rattle.lfg_chart.proofs.checked.is_checked.Given as goal

abbrev pub invariant-loop-rule : goal.invariant-loop-rule
invariant-loop-rule l = (rule : Rule) → In rule (take l.rule-index l.rule-items) → IsPlainRule l.cats rule

abbrev pub invariant-loop-lex : goal.invariant-loop-lex
invariant-loop-lex l = (lex : Lex) → In lex (take l.lex-index l.lex-items) → In lex.cat l.cats × (lex.schemata ≡ [])
