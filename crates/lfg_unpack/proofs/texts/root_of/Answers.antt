use Rattle.std.proofs.Common.{None, refl, arith}
use Rattle.std.specs.Prelude.{not}
use Rattle.std.specs.List.{list_any}
use Rattle.lfg_model.specs.PairTexts.{branch_of, is_to, mothers}
use Rattle.lfg_unpack.proofs.TreeLaws.{root_later}
use Rattle.lfg_unpack.proofs.texts.root_of.Goals as goal

pub loop-fact-preserved : goal.loop-fact-preserved
loop-fact-preserved c =
    root_later (λ e. not (list_any (λ f. is_to e (branch_of f.args)) c.args.facts.now)) (λ f. mothers (branch_of f.args)) c.args.facts.now c.loop-fact.fact-index c.fact-item.result None _
    (omega arith) c.fact-item.is c.in_default.ensures refl c.loop-fact.invariant
