use Rattle.std.proofs.Common.{take}
use Rattle.lfg_chart.specs.Agenda.{Gathers, IsAgenda, IsDaughterBy}
use Rattle.lfg_chart.proofs.kept.Agenda.add_by.Given as goal

abbrev pub invariant-loop-link : goal.invariant-loop-link
invariant-loop-link l = record { agenda : IsAgenda l.table l.self; found : Gathers l.initial.self l.self (IsDaughterBy l.table l.mother (take l.link-index l.links)) }
