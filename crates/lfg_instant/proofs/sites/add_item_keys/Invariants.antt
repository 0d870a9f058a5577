use Rattle.std.proofs.Common.{ℕ, ◌<◌, List}
use Rattle.lfg_terms.specs.declared.grammar.Grammar.{Grammar}
use Rattle.lfg_terms.specs.declared.tree.TokenForms.{TokenForms}
use Rattle.lfg_instant.specs.Collects.{Collects}
use Rattle.lfg_instant.specs.Sites.{item_of, site_key}
use Rattle.lfg_instant.proofs.CollectLaws.{MadeBy}
use Rattle.lfg_instant.proofs.sites.add_item_keys.Given as goal

abbrev pub invariant-loop-step : goal.invariant-loop-step
invariant-loop-step l = (g : Grammar) (s : List TokenForms) → Collects l.fn.keys.items l.keys.items (λ key. (m : ℕ) × (m < l.step-index) × MadeBy (λ step. site_key g s (item_of step)) l.steps m key)
