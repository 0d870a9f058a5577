use Rattle.std.proofs.Common.{arith, refl}
use Rattle.std.proofs.lemmas.Bool.{false≢true}
use Rattle.lfg_grammar.proofs.Keys.{rest_none, rest_more, rest_done, found_key, found_number}
use Rattle.lfg_grammar.proofs.settings.first_bad.Goals as goal

pub loop-i-init : goal.loop-i-init
loop-i-init c = rest_none c.args.settings.now

pub returns-then-came_before : goal.returns-then-came_before
returns-then-came_before c = found_key c.args.settings.now c.loop-i.i c.index-settings-i.result c.loop-i-test.true c.index-settings-i.is c.loop-i.invariant (c.if-came_before.ensures.0 refl)

pub returns-then-is_out_of_range : goal.returns-then-is_out_of_range
returns-then-is_out_of_range c = found_number c.args.settings.now c.loop-i.i c.index-settings-i.result c.loop-i-test.true c.index-settings-i.is c.loop-i.invariant (c.if-is_out_of_range.ensures.0 refl)

pub loop-i-preserved : goal.loop-i-preserved
loop-i-preserved c =
    rest_more c.args.settings.now c.loop-i.i c.index-settings-i.result c.loop-i-test.true c.index-settings-i.is c.loop-i.invariant
    (λ h. false≢true (c.if-came_before.ensures.1 h)) (λ h. false≢true (c.if-is_out_of_range.ensures.1 h))

pub returns : goal.returns
returns c = rest_done c.args.settings.now c.loop-i.i (omega arith) c.loop-i.invariant
