use Rattle.std.proofs.Common.{IsTrue, List, subst}
use Rattle.std.specs.Prelude.{◌↔◌}
use Rattle.lfg_terms.specs.declared.literal.Check.{Check}
use Rattle.lfg_model.specs.Lists.{In}
use Rattle.lfg_model.specs.Literals.{checks}
use Rattle.lfg_model.specs.Solve.{solution, Holds, IsCoherent, IsWellFormed}
use Rattle.lfg_model.specs.Terms.{Name}
use Rattle.lfg_solve.proofs.WellFormed.{passes, fails, clashing, cyclic, all_met, ok_from}
use Rattle.lfg_solve.proofs.assigned.is_well_formed.Goals as goal

pub returns-then-has_clash : goal.returns-then-has_clash
returns-then-has_clash c solves =
    clashing (solution c.args.literals.now) c.args.grammar.now.governable (checks c.args.literals.now) (passes _ _ (c.has_clash.ensures c.args.literals.now solves) c.if-has_clash.true)

pub returns-then-branch : goal.returns-then-branch
returns-then-branch c solves =
    cyclic (solution c.args.literals.now) c.args.grammar.now.governable (checks c.args.literals.now) (passes _ _ (c.in_ok-has_cycle.ensures c.args.literals.now solves) c.if-branch.true)

pub returns : goal.returns
returns c solves =
    let consistent = fails _ _ (c.has_clash.ensures c.args.literals.now solves) c.if-has_clash.false in
    let complete = passes _ _ (c.is_complete.ensures c.args.literals.now solves) c.if-not-is_complete.false in
    let coherent = subst (λ (gs : List Name). IsCoherent (solution c.args.literals.now) gs) c.list.ensures (passes _ _ (c.is_coherent.ensures c.args.literals.now solves) c.if-not-is_coherent.false) in
    let acyclic = fails _ _ (c.in_ok-has_cycle.ensures c.args.literals.now solves) c.if-branch.false in
    ok_from (λ b. IsTrue b ↔ ((k : Check) → In k (checks c.args.literals.now) → Holds (solution c.args.literals.now) k))
    (λ b. IsTrue b ↔ IsWellFormed (solution c.args.literals.now) c.args.grammar.now.governable (checks c.args.literals.now)) c.satisfies_all.result
    (λ b. all_met (solution c.args.literals.now) c.args.grammar.now.governable (checks c.args.literals.now) b consistent complete coherent acyclic) (c.satisfies_all.ensures solves)
