use Rattle.std.proofs.Common.{◌≡◌, ◌++◌, ◌∷◌, map, take}
use Rattle.xle_run.specs.Drafts.{daughter_view}
use Rattle.xle_run.proofs.thin.grammar.push_phrase.Given as goal

abbrev pub invariant-loop-daughter : goal.invariant-loop-daughter
invariant-loop-daughter l = l.cats.items ≡ l.fn.cats.items ++ l.phrase.cat ∷ map (λ x. x.cat) (map daughter_view (take l.daughter-index l.phrase.daughters.items))
