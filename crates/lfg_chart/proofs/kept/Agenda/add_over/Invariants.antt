use Rattle.lfg_chart.specs.Agenda.{Gathers, IsAgenda, IsDaughterOver}
use Rattle.lfg_chart.proofs.kept.Agenda.add_over.Given as goal

abbrev pub invariant-loop-at : goal.invariant-loop-at
invariant-loop-at l = record { agenda : IsAgenda l.table l.self; found : Gathers l.initial.self l.self (IsDaughterOver l.table l.mother l.link l.below l.at) }
