use Rattle.std.proofs.Common.{take}
use Rattle.lfg_grammar.specs.Cycles.{AreRuleLinks}
use Rattle.lfg_grammar.proofs.cycles.category_links.Given as goal

abbrev pub invariant-loop-rule : goal.invariant-loop-rule
invariant-loop-rule l = AreRuleLinks l.cats (take l.rule-index l.rules) l.links.items
