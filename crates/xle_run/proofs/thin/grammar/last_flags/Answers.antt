use Rattle.xle_run.proofs.Graphs.{last_start, last_on, last_end}
use Rattle.std.proofs.Common.{◌∙◌, ◌++◌, ◌-◌, suc, List, Bool, ap, arith}
use Rattle.lfg_model.specs.Thin.{last_of}
use Rattle.xle_run.proofs.thin.grammar.last_flags.Goals as goal

pub loop-number-preserved : goal.loop-number-preserved
loop-number-preserved c =
    last_on (last_of c.args.size) c.loop-number.last.items c.push.new.self.items c.loop-number._number c.args.size c.loop-number-test.true c.loop-number.invariant c.in_ok-push.ensures.items

pub loop-number-init : goal.loop-number-init
loop-number-init c = ap (λ (ls : List Bool). ls ++ last_of (suc (c.args.size - 1))) c.new-last.ensures.items ∙ last_start c.args.size (omega arith)

pub returns : goal.returns
returns c =
    last_end (last_of c.args.size) c.loop-number.last.items c.push-2.new.self.items c.loop-number._number c.args.size c.loop-number-test.false c.loop-number.invariant c.in_ok-push-2.ensures.items
