use Rattle.std.proofs.Common.{rules, map}
use Rattle.lfg_model.specs.ThinText.{is_entry_end, equation_at, IsEquation}
use Rattle.xle_run.specs.Drafts.{equation_view}
use Rattle.xle_run.proofs.Rows.{started, stepped, halted, ended}
use Rattle.xle_run.proofs.thin.lexicon.equations_of.Goals as goal

pub loop-rest-init : goal.loop-rest-init
loop-rest-init c = started is_entry_end IsEquation equation_view c.args.lexemes.now c.new-equations.result.items c.new-equations.ensures.items

pub loop-rest-preserved : goal.loop-rest-preserved
loop-rest-preserved c =
    stepped is_entry_end equation_at equation_view c.args.lexemes.now c.loop-rest.rest.now c.in-Some.behind.now c.loop-rest.equations.items c.push.new.self.items c.in-Some.equation c.loop-rest.invariant (search rules)
    (rw c.in-Some.is at c.in_ok-equation.ensures.read) c.in_ok-push.ensures.items

pub returns-in_default : goal.returns-in_default
returns-in_default c =
    halted is_entry_end equation_at equation_view c.args.lexemes.now c.loop-rest.rest.now c.loop-rest.equations.items c.loop-rest.invariant (search rules) (rw c.in_default.is at c.in_ok-equation.ensures.read)

pub returns : goal.returns
returns c = ended is_entry_end IsEquation c.args.lexemes.now c.loop-rest.rest.now (map equation_view c.loop-rest.equations.items) c.loop-rest.invariant (search rules)
