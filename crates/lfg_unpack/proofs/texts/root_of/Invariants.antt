use Rattle.std.proofs.Common.{◌≡◌, drop}
use Rattle.std.specs.Prelude.{not, find}
use Rattle.std.specs.List.{flat_map, list_any}
use Rattle.lfg_model.specs.PairTexts.{branch_of, is_to, mothers, root_of}
use Rattle.lfg_unpack.proofs.texts.root_of.Given as goal

abbrev pub invariant-loop-fact : goal.invariant-loop-fact
invariant-loop-fact l =
    find (λ e. not (list_any (λ f. is_to e (branch_of f.args)) l.facts)) (flat_map (λ f. mothers (branch_of f.args)) (drop l.fact-index l.facts))
    ≡ root_of l.facts
