-- The order of keys is total.
use Rattle.std.proofs.Common.{rules}
use Rattle.std.specs.Cmp.{IsTotalOrder}
use Rattle.std.specs.Cmp.Rules.{comparing}
use Rattle.lfg_terms.specs.OrderLaws.{edge_cmp_total}
use Rattle.lfg_packed.specs.ChoicePoints.{key_cmp}

pub key_cmp_total : IsTotalOrder key_cmp
key_cmp_total = search (comparing, rules, edge_cmp_total) depth 12
