use Rattle.std.proofs.Common.{◌≡◌, ◌∙◌, sym, arith}
use Rattle.std.proofs.lemmas.Fmt.{parse-decimal}
use Rattle.lfg_grammar.proofs.Numbers.{not_decimal}
use Rattle.lfg_grammar.proofs.settings.number_of.Goals as goal

pub returns-in_default-clause-none : goal.returns-in_default-clause-none
returns-in_default-clause-none c = λ n l e.
    c.in_default.not-Ok n (parse-decimal 32 n c.text-text.result.now c.parse.result l (omega arith) (c.text-text.ensures ∙ e) c.parse.ensures.value.0)

pub returns-else-eq-clause-none : goal.returns-else-eq-clause-none
returns-else-eq-clause-none c = λ n l e.
    not_decimal c.parse.result c.in-Ok.number n c.text-text.result.now c.args.word.now c.format.result.now c.in-Ok.is
    (parse-decimal 32 n c.text-text.result.now c.parse.result l (omega arith) (c.text-text.ensures ∙ e) c.parse.ensures.value.0)
    c.text-text.ensures e c.format.ensures.text c.if-eq.ensures
