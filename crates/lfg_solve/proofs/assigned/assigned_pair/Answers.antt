use Rattle.std.proofs.Common.{◌≡◌, List, subst, sym, ◌∙◌}
use Rattle.lfg_terms.specs.declared.node.Fact.{Fact}
use Rattle.lfg_terms.specs.declared.literal.Literal.{Literal}
use Rattle.lfg_model.specs.Terms.{tree_of}
use Rattle.lfg_model.specs.Trees.{literals}
use Rattle.lfg_solve.specs.Printable.{ArePrintable}
use Rattle.lfg_solve.specs.Solves.{Solves}
use Rattle.lfg_solve.proofs.EdgeNodes.{solution_edges}
use Rattle.lfg_solve.proofs.WellFormed.{passes, pair_from}
use Rattle.lfg_solve.proofs.assigned.assigned_pair.Goals as goal

pub returns-clause-pair : goal.returns-clause-pair
returns-clause-pair c fits =
    let is : c.deref-2.result.now ≡ literals c.args.grammar.now (tree_of c.args.derivation.now) 0 = c.deref-2.ensures.value ∙ c.in_ok-literals.ensures fits in
    let one : c.deref.result.now ≡ c.deref-2.result.now = c.deref.ensures.value ∙ sym c.deref-2.ensures.value in
    let solves = subst (λ (ls : List Literal). Solves ls c.in_ok-solution.solution) one c.in_ok-solution.ensures in
    let met = passes _ _ (c.in_ok-is_well_formed.ensures solves) c.if-not-branch.false in
    pair_from c.args.grammar.now c.args.tokens.now (tree_of c.args.derivation.now) c.deref-2.result.now c.in_ok-solution.solution c.in_ok-new.field-0 c.in_ok-new-2.field-0
    c.in_ok-tree_facts.field-0.items c.in_ok-facts.field-0.items is solves met.consistent (c.in_ok-tree_facts.ensures fits.tokens) c.in_ok-facts.ensures.exact
    c.in_ok-new.ensures c.in_ok-new-2.ensures

pub returns-clause-printable : goal.returns-clause-printable
returns-clause-printable c fits =
    let solved : Solves (literals c.args.grammar.now (tree_of c.args.derivation.now) 0) c.in_ok-solution.solution =
    subst (λ (ls : List Literal). Solves ls c.in_ok-solution.solution) (c.deref.ensures.value ∙ c.in_ok-literals.ensures fits) c.in_ok-solution.ensures in
    let edges = solution_edges c.args.grammar.now (tree_of c.args.derivation.now) 0 c.in_ok-solution.solution solved in
    subst (λ (facts : List Fact). ArePrintable facts) (sym c.in_ok-new-2.ensures) (c.in_ok-facts.ensures.printable edges)
