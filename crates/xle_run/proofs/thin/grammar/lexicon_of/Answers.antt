use Rattle.lfg_model.specs.Thin.{lex_of_entry}
use Rattle.xle_run.specs.Drafts.{entry_view}
use Rattle.xle_run.proofs.Places.{collected}
use Rattle.xle_run.proofs.thin.grammar.lexicon_of.Goals as goal

pub loop-entry-preserved : goal.loop-entry-preserved
loop-entry-preserved c =
    collected lex_of_entry entry_view c.args.entries.now c.loop-entry.entry-index c.entry-item.result c.loop-entry.lexicon.items c.push.new.self.items c.in_ok-lex_of.field-0 c.loop-entry-test.true c.entry-item.is c.loop-entry.invariant c.in_ok-lex_of.ensures c.in_ok-push.ensures.items
