use Rattle.std.proofs.Common.{arith}
use Rattle.lfg_instant.specs.Sites.{IsKeyOf, item_of, site_key}
use Rattle.lfg_instant.proofs.CollectLaws.{MadeBy, counted_none, collects_along, made_all, place_is}
use Rattle.lfg_instant.proofs.SiteLaws.{one_key}
use Rattle.lfg_instant.proofs.sites.add_item_keys.Goals as goal

pub loop-step-init : goal.loop-step-init
loop-step-init c g s = counted_none c.args.keys.now.items (MadeBy (λ step. site_key g s (item_of step)) c.args.steps.now)

pub loop-step-preserved : goal.loop-step-preserved
loop-step-preserved c g s =
    one_key (λ step. site_key g s (item_of step)) c.args.steps.now c.loop-step.step-index c.step-item.result c.in_ok-item_key.field-0 c.args.keys.now.items c.loop-step.keys.items c.push.new.self.items
    (place_is c.args.steps.now c.loop-step.step-index c.step-item.result c.loop-step-test.true c.step-item.is) (c.in_ok-item_key.ensures g s) (c.loop-step.invariant g s) c.in_ok-push.ensures.items

pub returns : goal.returns
returns c g s = collects_along c.args.keys.now.items c.loop-step.keys.items _ (IsKeyOf g s c.args.steps.now)
    (λ key. made_all (λ step. site_key g s (item_of step)) c.args.steps.now c.loop-step.step-index (omega (arith, c.loop-step-test.false)) key) (c.loop-step.invariant g s)
