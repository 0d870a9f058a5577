-- The orders of points and of the ways to go on at a point, and that they are total.
use Rattle.std.specs.Prelude.{ℕ, Option, Some, None}
use Rattle.std.proofs.Common.{rules}
use Rattle.std.specs.declared.cmp.Ordering.{Ordering}
use Rattle.std.specs.Ordering.{nat_cmp, on, then_cmp}
use Rattle.std.specs.Option.{option_cmp}
use Rattle.std.specs.Cmp.{IsTotalOrder}
use Rattle.std.specs.Cmp.Rules.{comparing}
use Rattle.lfg_terms.specs.Order.{edge_cmp}
use Rattle.lfg_terms.specs.OrderLaws.{edge_cmp_total}
use Rattle.lfg_model.specs.declared.point.Point.{Point}
use Rattle.lfg_model.specs.declared.point.Next.{Next}
use Rattle.lfg_model.specs.declared.point.Next.TheVariants as next

-- points are ordered by their edge, then by place, then by the item that was read last
abbrev pub point_cmp : Point → Point → Ordering
point_cmp = then_cmp (on (λ p. p.edge) edge_cmp) (then_cmp (on (λ p. p.at) nat_cmp) (on (λ p. p.occ) nat_cmp))

-- an item comes before the end of the rule
abbrev pub next_kind : Next → ℕ
next_kind (next.Item occ to) = 0
next_kind next.End = 1

-- the number of the next item and its end
abbrev pub next_item : Next → Option (ℕ × ℕ)
next_item (next.Item occ to) = Some (occ, to)
next_item next.End = None

-- two items are ordered by number, then by end
abbrev pub item_cmp : ℕ × ℕ → ℕ × ℕ → Ordering
item_cmp = then_cmp (on (λ x. x.0) nat_cmp) (on (λ x. x.1) nat_cmp)

-- the ways to go on are ordered by the next item, then by its end; the end of the rule is last
abbrev pub next_cmp : Next → Next → Ordering
next_cmp = then_cmp (on next_kind nat_cmp) (on next_item (option_cmp item_cmp))

-- both orders are total
pub point_cmp_total : IsTotalOrder point_cmp
point_cmp_total = search (comparing, rules, edge_cmp_total) depth 9

pub next_cmp_total : IsTotalOrder next_cmp
next_cmp_total = search (comparing, rules) depth 9
