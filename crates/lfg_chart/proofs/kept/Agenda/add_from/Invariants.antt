use Rattle.lfg_chart.specs.Agenda.{Gathers, IsAgenda, IsDaughterFrom}
use Rattle.lfg_chart.proofs.kept.Agenda.add_from.Given as goal

abbrev pub invariant-loop-mid : goal.invariant-loop-mid
invariant-loop-mid l = record { agenda : IsAgenda l.table l.self; found : Gathers l.initial.self l.self (IsDaughterFrom l.table l.mother l.fn.link l.below l.at l.mid) }
