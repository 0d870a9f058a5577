use Rattle.std.proofs.Common.{List, length, map, sym, subst, ◌∙◌, arith}
use Rattle.std.specs.Prelude.{Result, Ok, Err, IfOk}
use Rattle.std.proofs.lemmas.Option.{slice_get_within}
use Rattle.lfg_chart.specs.Chart.{ChartForm}
use Rattle.lfg_context.specs.Seen.{Set}
use Rattle.lfg_instant.specs.declared.flow.Passage.{Passage}
use Rattle.lfg_instant.specs.Junctions.{placed}
use Rattle.lfg_instant.specs.Ways.{Thing, things_of, ArePassages, ArePicks}
use Rattle.lfg_instant.proofs.PassageLaws.{length_things, length_picks, passages_within}
use Rattle.lfg_instant.proofs.ReachedTables.{is_reached_table}
use Rattle.lfg_instant.proofs.WayLaws.{once_outline}
use Rattle.lfg_instant.proofs.reached.contexts_of.Goals as goal

both_ok : {X E : Type 0} (P Q R : X → Type 0) (r : Result X E) → ((x : X) → P x → Q x → R x) → IfOk r P → IfOk r Q → IfOk r R
both_ok P Q R (Ok x) f p q = f x p q
both_ok P Q R (Err e) f p q = p

pub passages_of-requires-clause-order : goal.passages_of-requires-clause-order
passages_of-requires-clause-order c =
    let o = c.requires.outline in
    record {
      once = once_outline c.args.outline.now.grammar.now c.args.outline.now.tokens.now c.args.outline.now.chart.now c.args.outline.now.keys.now c.args.outline.now.facts.now
          o.is_chart.all_edges.ascends o.is_chart.all_points.ascends o.all_keys.ascends o.all_facts.ascends;
      keys_ascend = o.all_keys.ascends;
      facts_ascend = o.all_facts.ascends;
      fit = omega (arith, c.in-Some.ensures.fit, c.in-Some.ensures.sum);
    }

pub flow-requires-clause-root : goal.flow-requires-clause-root
flow-requires-clause-root c = let l = slice_get_within c.args.outline.now.chart.now.edges c.args.root _ c.requires.root in omega (arith, l, c.in-Some.ensures.sum)

pub flow-requires-clause-within : goal.flow-requires-clause-within
flow-requires-clause-within c =
    let chart : ChartForm = c.args.outline.now.chart.now in
    let things : List Thing = things_of chart c.args.outline.now.keys.now c.args.outline.now.facts.now in
    let P : List Passage → Type 0 = λ ps. ArePassages c.args.outline.now.grammar.now c.args.outline.now.tokens.now things chart.edges c.args.steps.now c.args.words.now ps in
    let Q : List Set → Type 0 = λ xs. ArePicks c.args.step_picks.now c.args.word_picks.now xs in
    let are = subst Q (sym c.deref-2.ensures.value) c.in_ok-picks.ensures.picks in
    let l = length_picks c.args.step_picks.now c.args.word_picks.now c.deref-2.result.now are in
    let a = c.requires.step_picks.beside in
    let b = c.requires.word_picks.beside in
    passages_within c.args.outline.now.grammar.now c.args.outline.now.tokens.now things chart.edges c.args.steps.now c.args.words.now c.deref.result.now
    (subst P (sym c.deref.ensures.value) c.in_ok-passages.ensures) c.in-Some.places (length c.deref-2.result.now)
    (length_things chart c.args.outline.now.keys.now c.args.outline.now.facts.now ∙ sym c.in-Some.ensures.sum) (omega (arith, l, a, b))

pub returns-clause-exact : goal.returns-clause-exact
returns-clause-exact c =
    let chart : ChartForm = c.args.outline.now.chart.now in
    let things : List Thing = things_of chart c.args.outline.now.keys.now c.args.outline.now.facts.now in
    let P : List Passage → Type 0 = λ ps. ArePassages c.args.outline.now.grammar.now c.args.outline.now.tokens.now things chart.edges c.args.steps.now c.args.words.now ps in
    let Q : List Set → Type 0 = λ xs. ArePicks c.args.step_picks.now c.args.word_picks.now xs in
    both_ok _ _ _ c.flow.result (λ table exact len. is_reached_table c.args.outline.now.grammar.now c.args.outline.now.tokens.now (map placed c.args.junctions.now) c.requires.junctions.choices
    chart c.args.lists.now c.args.steps.now c.args.words.now c.args.outline.now.keys.now c.args.outline.now.facts.now c.requires.outline
    c.args.step_picks.now c.args.word_picks.now c.deref-2.result.now c.requires.step_picks c.requires.word_picks
    (subst Q (sym c.deref-2.ensures.value) c.in_ok-picks.ensures.picks) c.deref.result.now (subst P (sym c.deref.ensures.value) c.in_ok-passages.ensures)
    c.args.root c.requires.root table.items exact (len ∙ c.in-Some.ensures.sum)) c.flow.ensures.exact c.flow.ensures.len
