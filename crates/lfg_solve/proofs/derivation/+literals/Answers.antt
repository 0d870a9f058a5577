use Rattle.std.proofs.Common.{◌-◌, ◌^◌, List, min, ap, sym, ◌∙◌, refl, arith}
use Rattle.std.proofs.lemmas.Result.{on_ok_weaker}
use Rattle.lfg_terms.specs.declared.tree.Part.{Part}
use Rattle.lfg_model.specs.Terms.{tree_of}
use Rattle.lfg_model.specs.Trees.{parts_width, parts_literals}
use Rattle.lfg_solve.specs.Views.{parts_from}
use Rattle.lfg_solve.proofs.PartLaws.{literals_one}
use Rattle.lfg_solve.proofs.ViewLaws.{inner_tree}
use Rattle.lfg_solve.proofs.DerivationLaws.{inner_literals, parts_turn, parts_end}
use Rattle.lfg_solve.proofs.derivation.+literals.Goals as goal

pub push_literals-returns-in_ok-edge-in-Inner : goal.push_literals-returns-in_ok-edge-in-Inner
push_literals-returns-in_ok-edge-in-Inner t c =
    let parts = c.deref-in-Inner-2.result.now in
    let is_inner = inner_tree c.args.derivation.now c.in-Inner.cat c.in-Inner.parts parts c.in-Inner.is c.deref-in-Inner-2.ensures.value in
    let twice = c.deref-in-Inner.ensures.value ∙ sym c.deref-in-Inner-2.ensures.value in
    let count = c.parts_width.ensures ∙ ap (λ (xs : List Part). min (parts_width (parts_from xs)) (2 ^ 32 - 1)) twice in
    on_ok_weaker c.push_parts_literals.result
    (inner_literals c.args.grammar.now (tree_of c.args.derivation.now) c.in-Inner.cat (parts_from parts) c.args.from c.parts_width.result c.saturating_add-in-Inner.result c.in_ok-edge-in-Inner.edge c.items_of.result.now
    c.args.list.now.items c.push_parts_literals.new.list.items is_inner c.in_ok-edge-in-Inner.ensures count c.saturating_add-in-Inner.ensures c.items_of.ensures)
    c.push_parts_literals.ensures

pub push_parts_literals-loop-part-preserved : goal.push_parts_literals-loop-part-preserved
push_parts_literals-loop-part-preserved t c =
    let mother = c.args.mother.now in
    λ forms few fits. parts_turn (parts_literals c.args.grammar.now mother.items.now mother.edge.now) (literals_one c.args.grammar.now mother.items.now mother.edge.now)
    c.args.parts.now c.loop-part.part-index c.part-item.result mother.edge.now.from c.loop-part.at c.in_ok-at.at c.args.list.now.items c.loop-part.list.items c.push_part_literals.new.list.items
    (omega arith) c.part-item.is fits (c.loop-part.invariant forms few fits) (λ h. c.in_ok-at.ensures forms few h)

pub push_parts_literals-returns : goal.push_parts_literals-returns
push_parts_literals-returns t c =
    let mother = c.args.mother.now in
    λ forms few fits. parts_end (parts_literals c.args.grammar.now mother.items.now mother.edge.now) (λ at. refl) c.args.parts.now c.loop-part.part-index c.loop-part.at c.loop-part.list.items _
    (omega arith) (c.loop-part.invariant forms few fits).1
