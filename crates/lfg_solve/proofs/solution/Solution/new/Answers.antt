use Rattle.std.proofs.Common.{◌≡◌, length, arith}
use Rattle.lfg_model.proofs.ListLaws.{In-append_left}
use Rattle.lfg_solve.proofs.Solving.{table_lists, step_listed, given_listed, value_listed, member_listed, solves}
use Rattle.lfg_solve.proofs.solution.Solution.new.Goals as goal

pub arcs_between-requires-clause-listed : goal.arcs_between-requires-clause-listed
arcs_between-requires-clause-listed c =
    rw (c.deref-3.ensures.value, c.deref-2.ensures.value) (λ t h. ((rw c.deref.ensures.value at c.in_ok-nodes.ensures).exact t).1 (In-append_left _ h))

pub arcs_between-requires-clause-before : goal.arcs_between-requires-clause-before
arcs_between-requires-clause-before c =
    rw (c.deref-3.ensures.value, c.deref-2.ensures.value)
    (step_listed c.args.literals.now _ _ c.in_ok-defined.ensures (table_lists c.args.literals.now _ _ c.in_ok-defined.ensures (rw c.deref.ensures.value at c.in_ok-nodes.ensures)))

pub given_pairs-requires-clause-listed : goal.given_pairs-requires-clause-listed
given_pairs-requires-clause-listed c =
    rw c.deref-4.ensures.value (given_listed c.args.literals.now _ (table_lists c.args.literals.now _ _ c.in_ok-defined.ensures (rw c.deref.ensures.value at c.in_ok-nodes.ensures)))

pub values_of_classes-requires-clause-listed : goal.values_of_classes-requires-clause-listed
values_of_classes-requires-clause-listed c =
    rw c.deref-8.ensures.value (value_listed c.args.literals.now _ (table_lists c.args.literals.now _ _ c.in_ok-defined.ensures (rw c.deref.ensures.value at c.in_ok-nodes.ensures)))

pub members_of_classes-requires-clause-listed : goal.members_of_classes-requires-clause-listed
members_of_classes-requires-clause-listed c =
    rw c.deref-9.ensures.value (member_listed c.args.literals.now _ (table_lists c.args.literals.now _ _ c.in_ok-defined.ensures (rw c.deref.ensures.value at c.in_ok-nodes.ensures)))

pub returns : goal.returns
returns c =
    let e : c.len.result ≡ length c.in_ok-nodes.nodes.items = omega arith in
    solves c.args.literals.now _ _ _ _ c.in_ok-defined.ensures (table_lists c.args.literals.now _ _ c.in_ok-defined.ensures (rw c.deref.ensures.value at c.in_ok-nodes.ensures))
    (rw c.deref-4.ensures.value at c.in_ok-given.ensures.exact)
    (rw (c.deref-2.ensures.value, c.deref-3.ensures.value) at c.in_ok-arcs.ensures.exact)
    (rw (e, c.deref-5.ensures.value, c.deref-6.ensures.value) at c.in_ok-classes.ensures.divides)
    (rw c.deref-7.ensures.value at c.in_ok-labelled.ensures)
    (rw c.deref-8.ensures.value at c.in_ok-values.ensures)
    (rw c.deref-9.ensures.value at c.in_ok-members.ensures)
