use Rattle.std.proofs.Common.{◌≡◌, ℕ, List, true, false, map, refl, sym, ◌∙◌, ap, subst}
use Rattle.lfg_terms.specs.declared.node.Node.{Node}
use Rattle.lfg_model.specs.Terms.{Name}
use Rattle.lfg_context.specs.Seen.{Set}
use Rattle.lfg_context.specs.Sets.{AreMade}
use Rattle.lfg_context.proofs.Growing.{made_grown, grown_trans, are_made_grown}
use Rattle.lfg_unify.specs.Closures.{Row, Ascends}
use Rattle.lfg_unify.specs.Marks.{AreArcs, given_in, arc_in}
use Rattle.lfg_unify.specs.Collected.{IsCollected}
use Rattle.lfg_unify.proofs.RowLaws.{row_grown}
use Rattle.lfg_unify.proofs.ClosureLaws.{is_system, given_made, map_made, row_made, arcs_made}
use Rattle.lfg_unify.proofs.closing.collected.Goals as goal

pub returns-clause-collected : goal.returns-clause-collected
returns-clause-collected c = record {
  nodes = c.requires.nodes;
  there = c.in_ok-there.ensures.marked;
  given = c.in_ok-given.ensures;
  defined = c.in_ok-defined.defined.items;
  marked = c.in_ok-defined.ensures.marked;
  arcs = subst (λ (r : Row). AreArcs c.args.nodes.now r c.in_ok-arcs.arcs.items) c.as_slice.ensures.value c.in_ok-arcs.ensures;
  numbered = c.in_ok-numbered.ensures ∙ ap (map (arc_in c.args.nodes.now)) c.as_slice-2.ensures.value;
}

pub returns-clause-system : goal.returns-clause-system
unfolding returns-clause-collected
returns-clause-system c =
    is_system c.args.nodes.now c.args.literals.now c.in_ok-arcs.arcs.items _ (returns-clause-collected c) c.in_ok-there.ensures.ascends c.in_ok-defined.ensures.row

pub returns-clause-arcs_made : goal.returns-clause-arcs_made
returns-clause-arcs_made c =
    arcs_made c.args.nodes.now c.in_ok-defined.defined.items c.in_ok-arcs.arcs.items c.in_ok-defined.ensures.row
    (subst (λ (r : Row). AreArcs c.args.nodes.now r c.in_ok-arcs.arcs.items) c.as_slice.ensures.value c.in_ok-arcs.ensures)

pub returns-clause-made : goal.returns-clause-made
returns-clause-made c = record {
  there = row_made c.in_ok-there.there.items (row_grown c.in_ok-defined.ensures.grown c.in_ok-there.ensures.row);
  given = subst (λ (xs : List ((ℕ × ℕ) × Set)). AreMade c.marked-2.new.contexts (λ e. e.1) xs) (sym c.in_ok-given.ensures)
      (given_made c.args.nodes.now c.args.literals.now (are_made_grown (grown_trans c.in_ok-there.ensures.grown c.in_ok-defined.ensures.grown) c.requires.made));
  arcs = subst (λ (xs : List ((ℕ × Name × ℕ) × Set)). AreMade c.marked-2.new.contexts (λ e. e.1) xs) (sym (c.in_ok-numbered.ensures ∙ ap (map (arc_in c.args.nodes.now)) c.as_slice-2.ensures.value))
      (map_made (arc_in c.args.nodes.now) (λ r. r.3) (λ e. e.1) c.in_ok-arcs.arcs.items (λ x. refl)
      (arcs_made c.args.nodes.now c.in_ok-defined.defined.items c.in_ok-arcs.arcs.items c.in_ok-defined.ensures.row
      (subst (λ (r : Row). AreArcs c.args.nodes.now r c.in_ok-arcs.arcs.items) c.as_slice.ensures.value c.in_ok-arcs.ensures)));
}
