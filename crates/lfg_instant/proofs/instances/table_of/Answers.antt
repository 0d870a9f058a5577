use Rattle.std.proofs.Common.{List, subst}
use Rattle.lfg_model.specs.Lists.{In}
use Rattle.lfg_instant.specs.declared.steps.Step.{Step}
use Rattle.lfg_instant.specs.declared.steps.Word.{Word}
use Rattle.lfg_instant.proofs.TakenSets.{step_place, word_place}
use Rattle.lfg_instant.proofs.instances.table_of.Goals as goal

pub step_picks-requires-clause-places : goal.step_picks-requires-clause-places
step_picks-requires-clause-places c = λ st i.
    (let o = c.args.outline.now in
    let it = c.requires.outline in
    let P : List Step → Type 0 = λ xs. In st xs in
    step_place o.grammar.now o.tokens.now o.chart.now.edges o.chart.now.forks c.args.layout.now.steps.items it.is_chart it.all_steps st (subst P c.deref.ensures.value i))

pub word_picks-requires-clause-places : goal.word_picks-requires-clause-places
word_picks-requires-clause-places c = λ w i.
    (let o = c.args.outline.now in
    let it = c.requires.outline in
    let P : List Word → Type 0 = λ xs. In w xs in
    word_place o.grammar.now o.tokens.now o.chart.now.edges c.args.layout.now.lists.items c.args.layout.now.words.items it.entries it.all_words w (subst P c.deref-2.ensures.value i))
