use Rattle.std.proofs.Common.{List, subst, arith}
use Rattle.lfg_terms.specs.declared.node.Fact.{Fact}
use Rattle.lfg_model.specs.Lists.{In}
use Rattle.std.specs.Prelude.{slice_get}
use Rattle.lfg_model.specs.Trees.{word_facts}
use Rattle.lfg_instant.specs.declared.steps.Word.{Word}
use Rattle.lfg_instant.specs.Collects.{Collects}
use Rattle.lfg_instant.proofs.CollectLaws.{listed_none, listed_more, listed_all}
use Rattle.lfg_instant.proofs.facts.add_word_facts.Goals as goal

pub loop-word-preserved : goal.loop-word-preserved
loop-word-preserved c =
    let Q : Word → Fact → Type 0 = λ w f. In f (word_facts (slice_get c.args.tokens.now w.edge.from) w.edge) in
    let P : List Fact → Type 0 = λ fs. Collects c.loop-word.facts.items c.add.new.facts.items (λ f. In f fs) in
    listed_more c.args.facts.now.items c.loop-word.facts.items c.add.new.facts.items Q c.args.words.now c.loop-word.word-index c.word-item.result (omega arith) c.word-item.is
    c.loop-word.invariant (subst P c.in_ok-found.ensures c.in_ok-add.ensures)

pub returns : goal.returns
returns c =
    let Q : Word → Fact → Type 0 = λ w f. In f (word_facts (slice_get c.args.tokens.now w.edge.from) w.edge) in
    listed_all c.args.facts.now.items c.loop-word.facts.items Q c.args.words.now c.loop-word.word-index (omega arith) c.loop-word.invariant

pub loop-word-init : goal.loop-word-init
loop-word-init c =
    let Q : Word → Fact → Type 0 = λ w f. In f (word_facts (slice_get c.args.tokens.now w.edge.from) w.edge) in
    listed_none c.args.facts.now.items Q c.args.words.now
