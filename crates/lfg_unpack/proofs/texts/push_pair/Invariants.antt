use Rattle.std.proofs.Common.{◌≡◌, [], ◌∷◌, ◌++◌, drop}
use Rattle.std.specs.List.{flat_map}
use Rattle.lfg_terms.specs.FactTexts.{fact_text}
use Rattle.lfg_unpack.proofs.texts.push_pair.Given as goal

abbrev pub invariant-loop-fact : goal.invariant-loop-fact
invariant-loop-fact l =
    l.text.items ++ flat_map (λ f. fact_text [] f ++ 10 ∷ []) (drop l.fact-index l.fact-items)
    ≡ l.initial.text.items ++ flat_map (λ f. fact_text [] f ++ 10 ∷ []) l.fact-items
