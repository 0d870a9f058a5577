use Rattle.std.proofs.Common.{◌≡◌, drop}
use Rattle.std.specs.List.{list_any}
use Rattle.lfg_model.specs.PairTexts.{branch_of, is_to}
use Rattle.lfg_unpack.proofs.texts.is_daughter.Given as goal

abbrev pub invariant-loop-fact : goal.invariant-loop-fact
invariant-loop-fact l =
    list_any (λ f. is_to l.edge (branch_of f.args)) (drop l.fact-index l.facts) ≡ list_any (λ f. is_to l.edge (branch_of f.args)) l.facts
