use Rattle.std.proofs.Common.{◌≡◌, ◌∙◌, ◌<◌, ◌^◌, length, rules, arith}
use Rattle.lfg_terms.specs.FactTexts.{fact_text}
use Rattle.lfg_terms.proofs.FactReading.{fact_text_injective}
use Rattle.lfg_terms.proofs.fact_texts.fact_text.Goals as goal

pub returns-clause-distinct : goal.returns-clause-distinct
returns-clause-distinct c other listed placed named mine e =
    let text : c.push_fact.new.text.items ≡ fact_text c.args.table.now c.args.fact.now = search rules in
    let small : length c.args.table.now < 2 ^ 64 = omega arith in
    fact_text_injective c.args.table.now small other c.args.fact.now listed c.requires placed c.in_ok-push_fact.ensures.placed named mine (e ∙ text)
