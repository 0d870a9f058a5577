use Rattle.std.proofs.Common.{◌≡◌, ◌≤◌, ◌+◌, ◌⊎◌}
use Rattle.std.specs.Prelude.{◌↔◌}
use Rattle.lfg_model.specs.Lists.{In}
use Rattle.lfg_chart.specs.declared.links.Link.{Link}
use Rattle.lfg_chart.specs.Numbers.{IsLinkOf}
use Rattle.lfg_chart.proofs.links.add_links.Given as goal

abbrev pub invariant-loop-number : goal.invariant-loop-number
invariant-loop-number g l = record {
  found : (link : Link) → In link l.found.items ↔ (In link l.initial.found.items ⊎ ((link.before ≡ l.before) × (link.item ≤ l.number) × IsLinkOf l.cats l.rule link));
  steps : l.steps ≤ l.fn.steps + l.number;
}
