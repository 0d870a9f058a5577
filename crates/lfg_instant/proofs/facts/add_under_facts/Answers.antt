use Rattle.std.proofs.Common.{List, subst, arith}
use Rattle.lfg_terms.specs.declared.node.Fact.{Fact}
use Rattle.lfg_model.specs.Lists.{In}
use Rattle.lfg_packed.specs.SpotFacts.{category_at, under_facts}
use Rattle.lfg_instant.specs.declared.steps.Step.{Step}
use Rattle.lfg_instant.specs.Collects.{Collects}
use Rattle.lfg_instant.proofs.CollectLaws.{listed_none, listed_more, listed_all}
use Rattle.lfg_instant.proofs.facts.add_under_facts.Goals as goal

pub loop-step-preserved : goal.loop-step-preserved
loop-step-preserved c =
    let Q : Step → Fact → Type 0 = λ st f. In f (under_facts st.point.edge st.point.at st.to (category_at c.args.grammar.now st.point.edge st.occ)) in
    let P : List Fact → Type 0 = λ fs. Collects c.loop-step.facts.items c.add.new.facts.items (λ f. In f fs) in
    listed_more c.args.facts.now.items c.loop-step.facts.items c.add.new.facts.items Q c.args.steps.now c.loop-step.step-index c.step-item.result (omega arith) c.step-item.is
    c.loop-step.invariant (subst P c.in_ok-found.ensures c.in_ok-add.ensures)

pub returns : goal.returns
returns c =
    let Q : Step → Fact → Type 0 = λ st f. In f (under_facts st.point.edge st.point.at st.to (category_at c.args.grammar.now st.point.edge st.occ)) in
    listed_all c.args.facts.now.items c.loop-step.facts.items Q c.args.steps.now c.loop-step.step-index (omega arith) c.loop-step.invariant

pub loop-step-init : goal.loop-step-init
loop-step-init c =
    let Q : Step → Fact → Type 0 = λ st f. In f (under_facts st.point.edge st.point.at st.to (category_at c.args.grammar.now st.point.edge st.occ)) in
    listed_none c.args.facts.now.items Q c.args.steps.now
