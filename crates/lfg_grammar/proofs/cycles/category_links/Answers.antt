use Rattle.std.proofs.Common.{List, [], sym, subst}
use Rattle.lfg_templates.proofs.Measures.{In_item}
use Rattle.lfg_grammar.specs.declared.reach.Link.{Link}
use Rattle.lfg_grammar.specs.Cycles.{AreRuleLinks}
use Rattle.lfg_grammar.proofs.CycleLaws.{rules_none, rules_more}
use Rattle.lfg_grammar.proofs.cycles.category_links.Goals as goal

pub loop-rule-init : goal.loop-rule-init
loop-rule-init c = subst (λ (links : List Link). AreRuleLinks c.args.cats.now [] links) (sym c.new-links.ensures.items) (rules_none c.args.cats.now)

pub push_rule_links-requires-clause-graph : goal.push_rule_links-requires-clause-graph
push_rule_links-requires-clause-graph c = c.requires.graphs c.rule-item.result (In_item c.args.rules.now c.loop-rule.rule-index c.rule-item.result c.rule-item.result c.loop-rule-test.true c.rule-item.is)

pub push_rule_links-requires-clause-above : goal.push_rule_links-requires-clause-above
push_rule_links-requires-clause-above c = c.requires.above c.rule-item.result (In_item c.args.rules.now c.loop-rule.rule-index c.rule-item.result c.rule-item.result c.loop-rule-test.true c.rule-item.is)

pub push_rule_links-requires-clause-below : goal.push_rule_links-requires-clause-below
push_rule_links-requires-clause-below c = λ cat. c.requires.below c.rule-item.result cat (In_item c.args.rules.now c.loop-rule.rule-index c.rule-item.result c.rule-item.result c.loop-rule-test.true c.rule-item.is)

pub loop-rule-preserved : goal.loop-rule-preserved
loop-rule-preserved c = rules_more c.args.cats.now c.args.rules.now c.loop-rule.rule-index c.rule-item.result c.loop-rule.links.items c.push_rule_links.new.links.items c.loop-rule-test.true c.rule-item.is c.loop-rule.invariant c.in_ok-push_rule_links.ensures
