use Rattle.std.proofs.Common.{List, sym, subst, ◌∙◌}
use Rattle.std.proofs.lemmas.Bool.{false≢true}
use Rattle.std.proofs.lemmas.Result.{err_from_is_err_and}
use Rattle.lfg_model.specs.RightSides.{right_side_of}
use Rattle.lfg_rulegraph.specs.declared.part.Link.{Link}
use Rattle.lfg_rulegraph.specs.Followers.{HasTable}
use Rattle.lfg_rulegraph.specs.Parts.{table_of}
use Rattle.lfg_rulegraph.proofs.EmptyLaws.{allows_exact, star_exact}
use Rattle.lfg_rulegraph.proofs.GraphLaws.{whole_graph}
use Rattle.lfg_rulegraph.proofs.graphs.graph.Goals as goal

pub returns-in_err-allows_empty-clause-refused : goal.returns-in_err-allows_empty-clause-refused
returns-in_err-allows_empty-clause-refused c =
    let h = c.in_err-allows_empty.ensures in
    let p = err_from_is_err_and c.from_residual.result c.from_residual.ensures.1 in
    rw (p.1, p.2, h.is) ((star_exact (right_side_of c.args.rhs.now)).0 h.some)

pub returns-then-branch-clause-refused : goal.returns-then-branch-clause-refused
returns-then-branch-clause-refused c =
    let side = right_side_of c.args.rhs.now in
    let h = c.in_ok-allows_empty.ensures in
    ((λ s. false≢true (sym h.none ∙ (star_exact side).1 s)), (allows_exact side).0 (sym h.same ∙ c.if-branch.true))

pub returns-clause-graph : goal.returns-clause-graph
returns-clause-graph c =
    let side = right_side_of c.args.rhs.now in
    let h = c.in_ok-allows_empty.ensures in
    let table = subst (λ (links : List Link). HasTable c.in_ok-part.part.end (table_of c.in_ok-part.part links) c.in_ok-graph_of.field-0) c.deref.ensures.value c.in_ok-graph_of.ensures in
    whole_graph side _ _ _ _ (λ s. false≢true (sym h.none ∙ (star_exact side).1 s)) (λ a. false≢true (sym c.if-branch.false ∙ h.same ∙ (allows_exact side).1 a))
    c.new-links.ensures.items c.in_ok-part.ensures table
