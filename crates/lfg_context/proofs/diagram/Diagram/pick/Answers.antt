use Rattle.std.proofs.Common.{◌≤◌, ℕ, List, length, slice_set, ap, sym, subst, arith}
use Rattle.std.proofs.lemmas.List.{length-set, get_or-set_same}
use Rattle.lfg_context.specs.Tables.{arity_in, IsTable, AreChildren}
use Rattle.lfg_context.proofs.Wider.{agrees_set, table_wider, picks_children}
use Rattle.lfg_context.proofs.Results.{results_kept}
use Rattle.lfg_context.proofs.diagram.Diagram.pick.Goals as goal

pub returns-in_err-make_room-clause-table : goal.returns-in_err-make_room-clause-table
returns-in_err-make_room-clause-table c =
    table_wider c.args.self.now.nodes.entries (arity_in c.args.arities.now.items) (arity_in c.make_room.new.arities.items) _ _ (λ k two. c.make_room.ensures.same k) c.make_room.ensures.longer c.requires.table

pub returns-in_err-children-clause-table : goal.returns-in_err-children-clause-table
returns-in_err-children-clause-table c =
    let now = slice_set c.make_room.new.arities.items c.args.choice c.args.arity in
    let le : length c.args.arities.now.items ≤ length now = omega (arith, length-set c.make_room.new.arities.items c.args.choice c.args.arity, c.make_room.ensures.longer) in
    table_wider c.args.self.now.nodes.entries (arity_in c.args.arities.now.items) (arity_in now) _ _
    (agrees_set c.args.arities.now.items c.make_room.new.arities.items c.args.choice c.args.arity c.make_room.ensures.same c.in_ok-make_room.ensures.room c.requires.consistent) le c.requires.table

pub make-requires-clause-table : goal.make-requires-clause-table
make-requires-clause-table c =
    let now = slice_set c.make_room.new.arities.items c.args.choice c.args.arity in
    let le : length c.args.arities.now.items ≤ length now = omega (arith, length-set c.make_room.new.arities.items c.args.choice c.args.arity, c.make_room.ensures.longer) in
    let P : List ℕ → Type 0 = λ v. IsTable c.args.self.now.nodes.entries (arity_in v) (length v) in
    subst P (sym c.as_slice.ensures.value) (table_wider c.args.self.now.nodes.entries (arity_in c.args.arities.now.items) (arity_in now) _ _
    (agrees_set c.args.arities.now.items c.make_room.new.arities.items c.args.choice c.args.arity c.make_room.ensures.same c.in_ok-make_room.ensures.room c.requires.consistent) le c.requires.table)

pub make-requires-clause-children : goal.make-requires-clause-children
make-requires-clause-children c =
    let now = slice_set c.make_room.new.arities.items c.args.choice c.args.arity in
    let P : List ℕ → Type 0 = λ v. AreChildren c.args.self.now.nodes.entries (arity_in v) (length v) c.args.choice c.in_ok-children.children.items in
    subst P (sym c.as_slice.ensures.value) (picks_children c.args.self.now.nodes.entries (arity_in now) (length now) c.args.choice c.args.arity c.args.alternative c.in_ok-children.children.items
    (omega (arith, length-set c.make_room.new.arities.items c.args.choice c.args.arity, c.in_ok-make_room.ensures.room)) c.requires.two
    (get_or-set_same c.make_room.new.arities.items c.args.choice c.args.arity 0 c.in_ok-make_room.ensures.room) c.in_ok-children.ensures)

pub returns-in_err-number-clause-results : goal.returns-in_err-number-clause-results
returns-in_err-number-clause-results c = results_kept c.make.ensures.extends (ap (λ v. v.entries) c.make.ensures.results) c.requires.results

pub returns-clause-results : goal.returns-clause-results
returns-clause-results c = results_kept c.make.ensures.extends (ap (λ v. v.entries) c.make.ensures.results) c.requires.results
