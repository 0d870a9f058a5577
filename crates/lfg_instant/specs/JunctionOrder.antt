-- The order of junctions, which is total.
use Rattle.std.proofs.Common.{rules}
use Rattle.std.specs.declared.cmp.Ordering.{Ordering}
use Rattle.std.specs.Cmp.{IsTotalOrder}
use Rattle.std.specs.Cmp.Rules.{comparing}
use Rattle.std.specs.Ordering.{nat_cmp, on, then_cmp}
use Rattle.lfg_packed.specs.ChoicePoints.{key_cmp}
use Rattle.lfg_packed.specs.KeyLaws.{key_cmp_total}
use Rattle.lfg_instant.specs.declared.junctions.Junction.{Junction}

-- junctions are compared by their keys, and then by how many alternatives there are
abbrev pub junction_cmp : Junction → Junction → Ordering
junction_cmp = then_cmp (on (λ j. j.key) key_cmp) (on (λ j. j.alternatives) nat_cmp)

pub junction_cmp_total : IsTotalOrder junction_cmp
junction_cmp_total = search (comparing, rules, key_cmp_total) depth 12
