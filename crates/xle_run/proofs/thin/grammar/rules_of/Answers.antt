use Rattle.lfg_model.specs.Thin.{rule_of_phrase}
use Rattle.xle_run.specs.Drafts.{phrase_view}
use Rattle.xle_run.proofs.Places.{collected}
use Rattle.xle_run.proofs.thin.grammar.rules_of.Goals as goal

pub loop-phrase-preserved : goal.loop-phrase-preserved
loop-phrase-preserved c =
    collected rule_of_phrase phrase_view c.args.phrases.now c.loop-phrase.phrase-index c.phrase-item.result c.loop-phrase.rules.items c.push.new.self.items c.in_ok-rule_of.field-0 c.loop-phrase-test.true c.phrase-item.is c.loop-phrase.invariant c.in_ok-rule_of.ensures c.in_ok-push.ensures.items
