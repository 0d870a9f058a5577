use Rattle.std.proofs.Common.{arith}
use Rattle.lfg_chart.proofs.WordLaws.{all_start, all_more}
use Rattle.lfg_chart.proofs.words.add_words.Goals as goal

pub loop-at-init : goal.loop-at-init
loop-at-init c = record { rows = c.requires.rows; words = all_start c.args.cats.now c.args.lexicon.now c.args.tokens.now c.args.table.now }

pub add_words_at-requires-clause-few : goal.add_words_at-requires-clause-few
add_words_at-requires-clause-few c = omega (arith, c.requires.few, c.loop-at.invariant.words.size)

pub add_words_at-requires-clause-within : goal.add_words_at-requires-clause-within
add_words_at-requires-clause-within c = omega (arith, c.requires.within, c.loop-at.invariant.words.size)

pub loop-at-preserved : goal.loop-at-preserved
loop-at-preserved c = record {
  rows = c.add_words_at.ensures.rows;
  words = all_more c.args.cats.now c.args.lexicon.now c.args.tokens.now c.loop-at.at c.index-tokens-at.result c.args.table.now c.loop-at.table c.add_words_at.new.table c.loop-at-test.true c.index-tokens-at.is
      c.loop-at.invariant.words c.add_words_at.ensures.words;
}
