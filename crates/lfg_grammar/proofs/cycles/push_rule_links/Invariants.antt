use Rattle.std.proofs.Common.{ℕ, ◌⊎◌, map, take}
use Rattle.std.specs.Prelude.{◌↔◌}
use Rattle.lfg_model.specs.Lists.{In}
use Rattle.lfg_grammar.specs.Reach.{link}
use Rattle.lfg_grammar.proofs.CycleLaws.{LinksDown}
use Rattle.lfg_grammar.proofs.cycles.push_rule_links.Given as goal

abbrev pub invariant-loop-cat : goal.invariant-loop-cat
invariant-loop-cat l = (a b : ℕ) → In (link a b) l.links.items
    ↔ (In (link a b) l.initial.links.items ⊎ LinksDown l.cats l.from (take l.cat-index (map (λ c. c.now) l.cat-items)) a b)
