use Rattle.std.proofs.Common.{◌<◌, length, arith}
use Rattle.lfg_context.proofs.Growing.{grown_trans, same_picks_trans, are_made_grown, made_at}
use Rattle.lfg_context.proofs.Telling.{in_more, of_more}
use Rattle.lfg_context.proofs.Telling.{of_all}
use Rattle.lfg_unify.proofs.Closed.{closure_grown}
use Rattle.lfg_constrain.specs.Checks.{PassesAll}
use Rattle.lfg_constrain.proofs.CheckLaws.{all_pass}
use Rattle.lfg_constrain.proofs.checks.failing.Goals as goal

pub failing_literal-requires-clause-literal : goal.failing_literal-requires-clause-literal
failing_literal-requires-clause-literal c = made_at c.loop-literal.literal-index c.literal-item.result (are_made_grown c.loop-literal.invariant.grown c.requires.made) (omega arith) c.literal-item.is

pub failing_literal-requires-clause-closure : goal.failing_literal-requires-clause-closure
failing_literal-requires-clause-closure c = record { literals = c.args.literals.now; is = closure_grown c.loop-literal.invariant.grown c.requires.closure }

pub returns-clause-fails : goal.returns-clause-fails
returns-clause-fails c = all_pass c.requires.closure (of_all (PassesAll c.args.closure.now) c.args.literals.now c.loop-literal.literal-index (omega arith) c.loop-literal.invariant.tells)

pub loop-literal-preserved : goal.loop-literal-preserved
loop-literal-preserved c = record {
  grown = grown_trans (grown_trans c.loop-literal.invariant.grown c.in_ok-one.ensures.grown) c.in_ok-found.ensures.grown;
  picks = same_picks_trans (same_picks_trans c.loop-literal.invariant.picks c.in_ok-one.ensures.picks) c.in_ok-found.ensures.picks;
  made = c.in_ok-found.ensures.ok.made;
  tells = of_more (PassesAll c.args.closure.now) c.args.literals.now c.loop-literal.literal-index c.literal-item.result (omega arith) c.literal-item.is c.loop-literal.invariant.tells
      (c.in_ok-one.ensures.tells) c.in_ok-found.ensures.ok.members;
}
