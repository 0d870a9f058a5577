use Rattle.std.proofs.Common.{ℕ, List, sym, subst}
use Rattle.lfg_context.specs.declared.diagram.Work.{Work}
use Rattle.lfg_context.specs.Ops.{AreResults}
use Rattle.lfg_context.proofs.Results.{results_inserted}
use Rattle.lfg_context.proofs.diagram.Diagram.remember.Goals as goal

pub returns-clause-results : goal.returns-clause-results
returns-clause-results c =
    let P : List (Work × ℕ) → Type 0 = λ v. AreResults c.args.self.now.nodes.entries v in
    subst P (sym c.in_ok-insert.ensures.entries) (results_inserted c.args.self.now.nodes.entries c.args.work c.args.number _ c.requires.results c.requires.right)
