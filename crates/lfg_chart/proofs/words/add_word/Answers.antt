use Rattle.lfg_chart.proofs.CellLaws.{true_is, false_not}
use Rattle.lfg_chart.proofs.WordLaws.{rows_kept, word_put, word_none}
use Rattle.lfg_chart.proofs.words.add_word.Goals as goal

pub returns-then-has_form-clause-rows : goal.returns-then-has_form-clause-rows
returns-then-has_form-clause-rows c = rows_kept c.args.rules.now c.args.table.now c.add.new.self c.add.result c.add.ensures.step c.requires.rows

pub returns-then-has_form-clause-words : goal.returns-then-has_form-clause-words
returns-then-has_form-clause-words c =
    word_put c.args.cats.now c.args.lex.now c.args.token.now c.args.at c.number_of-cat.result c.args.table.now c.add.new.self c.one.result c.add.result c.requires.ordered c.number_of-cat.ensures
    (c.has_form.ensures.0 (true_is c.if-has_form.true)) c.requires.within c.one.ensures c.add.ensures

pub returns-else-has_form-clause-words : goal.returns-else-has_form-clause-words
returns-else-has_form-clause-words c = word_none c.args.cats.now c.args.lex.now c.args.token.now c.args.at c.args.table.now (λ h. false_not c.if-has_form.false (c.has_form.ensures.1 h))
