use Rattle.std.proofs.Common.{rules, map}
use Rattle.lfg_model.specs.ThinText.{is_nothing, daughter_at, IsDaughter}
use Rattle.xle_run.specs.Drafts.{daughter_view}
use Rattle.xle_run.proofs.Rows.{started, stepped, halted, ended}
use Rattle.xle_run.proofs.thin.rules.daughters_of.Goals as goal

pub loop-rest-init : goal.loop-rest-init
loop-rest-init c = started is_nothing IsDaughter daughter_view c.args.items.now c.new-daughters.result.items c.new-daughters.ensures.items

pub loop-rest-preserved : goal.loop-rest-preserved
loop-rest-preserved c =
    stepped is_nothing daughter_at daughter_view c.args.items.now c.loop-rest.rest.now c.in-Some.behind.now c.loop-rest.daughters.items c.push.new.self.items c.in-Some.daughter c.loop-rest.invariant (search rules)
    (rw c.in-Some.is at c.in_ok-daughter.ensures.read) c.in_ok-push.ensures.items

pub returns-in_default : goal.returns-in_default
returns-in_default c =
    halted is_nothing daughter_at daughter_view c.args.items.now c.loop-rest.rest.now c.loop-rest.daughters.items c.loop-rest.invariant (search rules) (rw c.in_default.is at c.in_ok-daughter.ensures.read)

pub returns : goal.returns
returns c = ended is_nothing IsDaughter c.args.items.now c.loop-rest.rest.now (map daughter_view c.loop-rest.daughters.items) c.loop-rest.invariant (search rules)
