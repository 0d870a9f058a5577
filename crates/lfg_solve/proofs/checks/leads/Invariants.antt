use Rattle.std.proofs.Common.{drop}
use Rattle.lfg_solve.proofs.Walks.{LeadsOn}
use Rattle.lfg_solve.proofs.checks.leads.Given as goal

abbrev pub invariant-loop-attribute : goal.invariant-loop-attribute
invariant-loop-attribute l = LeadsOn l.arcs l.from l.path l.class (drop l.attribute-index l.path)
