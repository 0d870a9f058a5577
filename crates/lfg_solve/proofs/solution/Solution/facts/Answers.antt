use Rattle.std.proofs.lemmas.Result.{IfOk-weaker}
use Rattle.lfg_solve.proofs.FactLaws.{facts_by_numbers}
use Rattle.lfg_solve.proofs.PrintableLaws.{facts_printable}
use Rattle.lfg_solve.proofs.solution.Solution.facts.Goals as goal

pub returns-clause-exact : goal.returns-clause-exact
returns-clause-exact c =
    λ ls y sound. IfOk-weaker c.facts_of.result _ _ (λ facts l. facts_by_numbers ls c.args.self.now y sound facts.items l)
    (rw (c.deref.ensures.value, c.deref-2.ensures.value, c.deref-3.ensures.value, c.deref-4.ensures.value) at c.facts_of.ensures)

pub returns-clause-printable : goal.returns-clause-printable
returns-clause-printable c =
    λ edges. IfOk-weaker c.facts_of.result _ _ (λ facts l. facts_printable c.args.self.now.values.items c.args.self.now.nodes.items edges c.args.self.now.arcs.items c.args.self.now.members.items facts.items l)
    (rw (c.deref.ensures.value, c.deref-2.ensures.value, c.deref-3.ensures.value, c.deref-4.ensures.value) at c.facts_of.ensures)
