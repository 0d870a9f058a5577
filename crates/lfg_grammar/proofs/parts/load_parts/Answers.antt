use Rattle.std.proofs.Common.{map}
use Rattle.std.proofs.lemmas.Result.{err_from_is_err_and}
use Rattle.lfg_model.specs.DraftForms.{plain_form}
use Rattle.lfg_grammar.proofs.PartLaws.{rules_fail, words_fail}
use Rattle.lfg_grammar.proofs.parts.load_parts.Goals as goal

pub returns-in_err-rules : goal.returns-in_err-rules
returns-in_err-rules c =
    let p = err_from_is_err_and c.from_residual.result c.from_residual.ensures.1 in
    rw (p.1, p.2) (rules_fail c.args.depth (plain_form c.args.plain.now) c.in_err-rules.field-0.0 (rw c.list.ensures at c.in_err-rules.ensures))

pub returns-in_err-words : goal.returns-in_err-words
returns-in_err-words c =
    let p = err_from_is_err_and c.from_residual-in_err-words.result c.from_residual-in_err-words.ensures.1 in
    rw (p.1, p.2) (words_fail c.args.depth (plain_form c.args.plain.now) c.in_err-words.field-0.0 (rw c.list-2.ensures at c.in_err-words.ensures))
