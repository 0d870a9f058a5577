use Rattle.std.proofs.Common.{ℕ, ◌+◌, arith}
use Rattle.lfg_instant.specs.declared.flow.Passage.{Passage}
use Rattle.lfg_instant.specs.declared.steps.Step.{Step}
use Rattle.lfg_instant.specs.Ways.{ThePoint, things_of, JoinsOneOf, step_things}
use Rattle.lfg_instant.proofs.CollectLaws.{counted_none, place_is}
use Rattle.lfg_instant.proofs.PassageLaws.{GivenAt, given_more, given_all}
use Rattle.lfg_instant.proofs.passages.add_steps.Goals as goal

pub loop-number-init : goal.loop-number-init
loop-number-init c =
    let Q : ℕ → Step → Passage → Type 0 = (λ n x q. JoinsOneOf (things_of c.args.outline.now.chart.now c.args.outline.now.keys.now c.args.outline.now.facts.now) (ThePoint x.point) (step_things c.args.outline.now.grammar.now c.args.outline.now.tokens.now x) (c.args.first + n) q) in
    counted_none c.args.passages.now.items (GivenAt c.args.steps.now Q)

pub loop-number-preserved : goal.loop-number-preserved
loop-number-preserved c =
    let Q : ℕ → Step → Passage → Type 0 = (λ n x q. JoinsOneOf (things_of c.args.outline.now.chart.now c.args.outline.now.keys.now c.args.outline.now.facts.now) (ThePoint x.point) (step_things c.args.outline.now.grammar.now c.args.outline.now.tokens.now x) (c.args.first + n) q) in
    given_more c.args.steps.now Q c.args.passages.now.items c.loop-number.passages.items c.add_step.new.passages.items c.loop-number.number c.index-steps-number.result
    (place_is c.args.steps.now c.loop-number.number c.index-steps-number.result c.loop-number-test.true c.index-steps-number.is) c.loop-number.invariant c.in_ok-add_step.ensures

pub returns : goal.returns
returns c =
    let Q : ℕ → Step → Passage → Type 0 = (λ n x q. JoinsOneOf (things_of c.args.outline.now.chart.now c.args.outline.now.keys.now c.args.outline.now.facts.now) (ThePoint x.point) (step_things c.args.outline.now.grammar.now c.args.outline.now.tokens.now x) (c.args.first + n) q) in
    given_all c.args.steps.now Q c.args.passages.now.items c.loop-number.passages.items c.loop-number.number (omega (arith, c.loop-number-test.false)) c.loop-number.invariant
