use Rattle.lfg_model.specs.Thin.{schema_of_equation}
use Rattle.xle_run.specs.Drafts.{equation_view}
use Rattle.xle_run.proofs.Places.{collected}
use Rattle.xle_run.proofs.thin.grammar.schemata_of.Goals as goal

pub loop-equation-preserved : goal.loop-equation-preserved
loop-equation-preserved c =
    collected schema_of_equation equation_view c.args.equations.now c.loop-equation.equation-index c.equation-item.result c.loop-equation.schemata.items c.push.new.self.items c.in_ok-schema_of.field-0 c.loop-equation-test.true c.equation-item.is c.loop-equation.invariant c.in_ok-schema_of.ensures c.in_ok-push.ensures.items
