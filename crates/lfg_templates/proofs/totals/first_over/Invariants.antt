use Rattle.std.proofs.Common.{◌≡◌, ◌≤◌, take}
use Rattle.lfg_model.specs.TemplateRules.{schema_limit}
use Rattle.lfg_templates.specs.Counts.{summed}
use Rattle.lfg_templates.proofs.totals.first_over.Given as goal

-- the sum of what comes before, which is within the limit
abbrev pub invariant-loop-weight : goal.invariant-loop-weight
invariant-loop-weight l = record {
  sum : l.sum ≡ summed (λ w. w.size) (take l.weight-index l.weights);
  within : l.sum ≤ schema_limit;
}
