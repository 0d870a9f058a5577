use Rattle.std.proofs.Common.{ℕ, ◌<◌}
use Rattle.std.specs.Prelude.{◌↔◌}
use Rattle.lfg_chart.specs.Places.{Has}
use Rattle.lfg_chart.specs.Tables.{Holds}
use Rattle.lfg_chart.proofs.fill.joined.Given as goal

abbrev pub invariant-loop-mid : goal.invariant-loop-mid
invariant-loop-mid l = (to : ℕ) → to < l.table.size → Has l.ends to ↔ ((mid : ℕ) × (mid < l.mid) × Has l.middles mid × Holds l.table l.right mid to)
