use Rattle.xle_run.specs.Categories.{phrase_cats}
use Rattle.xle_run.specs.Drafts.{phrase_view}
use Rattle.xle_run.proofs.AllCategories.{flat_more}
use Rattle.xle_run.proofs.thin.grammar.push_phrases.Goals as goal

pub loop-phrase-preserved : goal.loop-phrase-preserved
loop-phrase-preserved c =
    flat_more phrase_view phrase_cats c.args.phrases.now c.loop-phrase.phrase-index c.phrase-item.result c.args.cats.now.items c.loop-phrase.cats.items c.push_phrase.new.cats.items c.loop-phrase-test.true c.phrase-item.is c.loop-phrase.invariant c.in_ok-push_phrase.ensures
