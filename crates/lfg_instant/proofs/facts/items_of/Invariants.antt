use Rattle.std.proofs.Common.{◌≡◌, drop}
use Rattle.std.specs.Prelude.{find}
use Rattle.lfg_model.specs.Terms.{same_name}
use Rattle.lfg_model.specs.Trees.{items_of}
use Rattle.lfg_instant.proofs.facts.items_of.Given as goal

abbrev pub invariant-loop-rule : goal.invariant-loop-rule
invariant-loop-rule l = items_of (find (λ r. same_name r.cat l.cat) (drop l.rule-index l.rule-items)) ≡ items_of (find (λ r. same_name r.cat l.cat) l.rule-items)
