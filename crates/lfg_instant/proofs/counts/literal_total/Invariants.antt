use Rattle.std.proofs.Common.{◌≡◌, ◌+◌, ◌-◌, ◌^◌, ◌≤◌, min, drop}
use Rattle.std.specs.List.{sum_by}
use Rattle.lfg_packed.specs.Choices.{annotation_at}
use Rattle.lfg_packed.specs.Sizes.{literal_size}
use Rattle.lfg_instant.specs.Sites.{site_of_key}
use Rattle.lfg_instant.proofs.counts.literal_total.Given as goal

abbrev pub invariant-loop-key : goal.invariant-loop-key
invariant-loop-key l =
    record { same : min (l.total + sum_by (λ k. literal_size (annotation_at l.grammar (site_of_key k))) (drop l.key-index l.keys)) (2 ^ 64 - 1) ≡ min (sum_by (λ k. literal_size (annotation_at l.grammar (site_of_key k))) l.keys) (2 ^ 64 - 1); within : l.total ≤ 2 ^ 64 - 1 }
