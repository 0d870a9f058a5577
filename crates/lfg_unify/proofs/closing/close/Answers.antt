use Rattle.std.proofs.Common.{◌≡◌, ◌<◌, ℕ, List, length, map, refl, sym, ◌∙◌, ap, subst, arith}
use Rattle.std.specs.List.{flat_map}
use Rattle.lfg_terms.specs.declared.node.Node.{Node}
use Rattle.lfg_model.specs.declared.constant.Constant.{Constant}
use Rattle.lfg_model.specs.Lists.{In}
use Rattle.lfg_context.specs.Seen.{Set}
use Rattle.lfg_context.specs.Sets.{member, IsMade, IsGrown, AreMade}
use Rattle.lfg_context.proofs.Growing.{grown_trans, are_made_grown}
use Rattle.lfg_unify.specs.Closures.{Row, place_in}
use Rattle.lfg_unify.specs.Marks.{values_in, members_in}
use Rattle.lfg_unify.specs.Rows.{AreAscending}
use Rattle.lfg_unify.specs.Collected.{IsCollected, IsFinished, placed_in, source_in, set_in}
use Rattle.lfg_unify.specs.Clashes.{Clashes}
use Rattle.lfg_context.specs.Telling.{Tells, InSome}
use Rattle.lfg_unify.proofs.Places.{place_In}
use Rattle.lfg_unify.proofs.RowLaws.{rows_grown}
use Rattle.lfg_unify.proofs.PlacedLaws.{tells_parts}
use Rattle.lfg_unify.proofs.ClosureLaws.{value_listed, values_made, members_made, closes}
use Rattle.lfg_unify.proofs.closing.close.Goals as goal

pub clash_of_all-requires-clause-places : goal.clash_of_all-requires-clause-places
clash_of_all-requires-clause-places c = λ v i.
    let e : c.as_slice-4.result.now ≡ flat_map values_in c.args.literals.now = c.as_slice-4.ensures.value ∙ c.in_ok-values.ensures in
    let h = value_listed c.args.literals.now c.in_ok-nodes.nodes.items c.in_ok-nodes.ensures v (subst (λ (xs : List (Node × Constant × Set)). In v xs) e i) in
    subst (λ (ns : List Node). place_in ns v.0 < length ns) (sym c.as_slice-2.ensures.value) (place_In c.in_ok-nodes.nodes.items v.0 h)

pub clash_of_all-requires-clause-values : goal.clash_of_all-requires-clause-values
clash_of_all-requires-clause-values c =
    subst (λ (xs : List (Node × Constant × Set)). AreMade c.solve.new.contexts (λ v. v.2) xs) (sym (c.as_slice-4.ensures.value ∙ c.in_ok-values.ensures))
    (values_made c.args.literals.now (are_made_grown (grown_trans c.in_ok-system.ensures.grown c.in_ok-table.ensures.grown) c.requires))

pub clash_of_all-requires-clause-members : goal.clash_of_all-requires-clause-members
clash_of_all-requires-clause-members c =
    subst (λ (xs : List (Node × Node × Set)). AreMade c.solve.new.contexts (λ v. v.2) xs) (sym (c.as_slice-5.ensures.value ∙ c.in_ok-members.ensures))
    (members_made c.args.literals.now (are_made_grown (grown_trans c.in_ok-system.ensures.grown c.in_ok-table.ensures.grown) c.requires))

pub returns-clause-closure : goal.returns-clause-closure
returns-clause-closure c =
    let ls = c.args.literals.now in
    let ns = c.in_ok-nodes.nodes.items in
    let list = c.in_ok-system.arcs.items in
    let s = c.in_ok-system.system in
    let rows = c.in_ok-table.table in
    let k = c.in_ok-closure.closure in
    let f = c.in_ok-closure.ensures in
    let collected : IsCollected ns ls list s = subst (λ (xs : List Node). IsCollected xs ls list s) c.as_slice.ensures.value c.in_ok-system.ensures.collected in
    let asc : AreAscending rows = subst (λ (r : List Row). AreAscending r) c.table.view_is c.table.invariant in
    let count : length rows ≡ length ns = omega (arith, c.in_ok-table.ensures.len) in
    let late = c.in_ok-clash.ensures.grown in
    let g = grown_trans c.in_ok-table.ensures.grown late in
    let finished : IsFinished ns rows list (flat_map values_in ls) (flat_map members_in ls) k.clash k.empty k = record {
      nodes = f.nodes;
      rows_are = f.rows_are;
      arcs = f.arcs;
      values = f.values ∙ c.in_ok-values.ensures;
      members = f.members ∙ c.in_ok-members.ensures;
      clash = refl;
      empty = refl;
    } in
    closes c.clash_of_all.new.contexts ns ls list s rows k collected c.in_ok-table.ensures.solves asc count (rows_grown late c.in_ok-table.ensures.rows)
    (are_made_grown g c.in_ok-system.ensures.arcs_made) (are_made_grown (grown_trans c.in_ok-system.ensures.grown g) c.requires) finished
    (subst (λ (z : Set). IsMade c.clash_of_all.new.contexts z) (sym f.clash) c.in_ok-clash.ensures.made)
    (subst (λ (z : Set). IsMade c.clash_of_all.new.contexts z) (sym f.empty) c.no-empty.ensures.made)
    (λ a. ap (λ z. member z a) f.empty ∙ c.no-empty.ensures.members a)
    (subst (λ (z : Set). Tells z (InSome (map (placed_in ns) (flat_map values_in ls)) (Clashes rows (map (placed_in ns) (flat_map values_in ls)) (map (source_in ns) list) (map (set_in ns) (flat_map members_in ls))))) (sym f.clash)
    (tells_parts c.in_ok-clash.clash rows c.as_slice-2.result.now ns c.as_slice-4.result.now (flat_map values_in ls) c.as_slice-3.result.now list c.as_slice-5.result.now (flat_map members_in ls)
    c.as_slice-2.ensures.value (c.as_slice-4.ensures.value ∙ c.in_ok-values.ensures) c.as_slice-3.ensures.value (c.as_slice-5.ensures.value ∙ c.in_ok-members.ensures) c.in_ok-clash.ensures.tells))
