use Rattle.std.proofs.Common.{inl, inr, arith}
use Rattle.lfg_grammar.proofs.Numbers.{one_word, no_number}
use Rattle.lfg_grammar.proofs.settings.number_to.Goals as goal

pub returns-then-number-eq0-clause-none : goal.returns-then-number-eq0-clause-none
returns-then-number-eq0-clause-none c =
    no_number c.args.greatest c.in-Some.number c.word-item.result c.args.words.now (omega arith) (omega arith)
    (one_word c.args.words.now c.word-item.result (omega arith) (omega arith) c.word-item.is) c.in-Some.ensures.number (inl c.if-number-eq0.true)

pub returns-then-number-greatest-clause-none : goal.returns-then-number-greatest-clause-none
returns-then-number-greatest-clause-none c =
    no_number c.args.greatest c.in-Some.number c.word-item.result c.args.words.now (omega arith) (omega arith)
    (one_word c.args.words.now c.word-item.result (omega arith) (omega arith) c.word-item.is) c.in-Some.ensures.number (inr c.if-number-greatest.true)
