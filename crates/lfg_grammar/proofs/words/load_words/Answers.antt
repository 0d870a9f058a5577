use Rattle.std.proofs.Common.{arith, List, map, subst}
use Rattle.std.proofs.lemmas.List.{take_all}
use Rattle.std.proofs.lemmas.Result.{err_from_is_err_and}
use Rattle.lfg_terms.specs.declared.draft.LexEntry.{LexEntry}
use Rattle.lfg_model.specs.DraftForms.{word_form}
use Rattle.lfg_model.specs.Loads.{LoadsWord}
use Rattle.lfg_model.specs.Templates.{Each, end}
use Rattle.lfg_grammar.proofs.Loading.{item_in}
use Rattle.lfg_grammar.proofs.WordLaws.{each_more, word_fails}
use Rattle.lfg_grammar.proofs.words.load_words.Goals as goal

pub loop-word-init : goal.loop-word-init
loop-word-init c = rw c.new-out.ensures.items end

pub load_word-requires-clause-no_call : goal.load_word-requires-clause-no_call
load_word-requires-clause-no_call c = c.requires.no_call c.word-item.result (item_in c.args.words.now c.loop-word.word-index c.word-item.result c.loop-word-test.true c.word-item.is)

pub returns-in_err-load_word : goal.returns-in_err-load_word
returns-in_err-load_word c =
    let p = err_from_is_err_and c.from_residual.result c.from_residual.ensures.1 in
    rw (p.1, p.2) (word_fails c.args.depth c.args.words.now c.word-item.result c.in_err-load_word.field-0.0 (item_in c.args.words.now c.loop-word.word-index c.word-item.result c.loop-word-test.true c.word-item.is) c.in_err-load_word.ensures)

pub loop-word-preserved : goal.loop-word-preserved
loop-word-preserved c =
    each_more (LoadsWord c.args.depth) word_form c.args.words.now c.loop-word.word-index c.word-item.result c.loop-word.out.items c.in_ok-load_word.field-0 c.push.new.self.items c.loop-word-test.true c.word-item.is c.in_ok-push.ensures.items c.loop-word.invariant c.in_ok-load_word.ensures

pub returns : goal.returns
returns c = subst (λ (xs : List LexEntry). Each (LoadsWord c.args.depth) (map word_form xs) c.loop-word.out.items) (take_all c.loop-word.word-index c.args.words.now (omega arith)) c.loop-word.invariant
