use Rattle.std.proofs.Common.{◌-◌, ◌^◌, List, min, ap, sym, ◌∙◌, arith}
use Rattle.std.proofs.lemmas.Result.{on_ok_weaker}
use Rattle.lfg_terms.specs.declared.tree.Part.{Part}
use Rattle.lfg_model.specs.Terms.{tree_of}
use Rattle.lfg_model.specs.Trees.{parts_width, parts_facts}
use Rattle.lfg_solve.specs.Views.{parts_from}
use Rattle.lfg_solve.proofs.PartLaws.{facts_one}
use Rattle.lfg_solve.proofs.ViewLaws.{inner_tree}
use Rattle.lfg_solve.proofs.DerivationLaws.{inner_facts, parts_turn}
use Rattle.lfg_solve.proofs.derivation.+facts.Goals as goal

pub push_tree_facts-returns-in_ok-mother-in-Inner : goal.push_tree_facts-returns-in_ok-mother-in-Inner
push_tree_facts-returns-in_ok-mother-in-Inner t c =
    let parts = c.deref-in-Inner.result.now in
    let is_inner = inner_tree c.args.derivation.now c.in-Inner.cat c.in-Inner.parts parts c.in-Inner.is c.deref-in-Inner.ensures.value in
    let twice = c.deref.ensures.value ∙ sym c.deref-in-Inner.ensures.value in
    let count = c.parts_width.ensures ∙ ap (λ (xs : List Part). min (parts_width (parts_from xs)) (2 ^ 32 - 1)) twice in
    on_ok_weaker c.push_parts_facts.result
    (inner_facts c.args.tokens.now (tree_of c.args.derivation.now) c.in-Inner.cat (parts_from parts) c.args.from c.parts_width.result c.saturating_add-in-Inner.result c.in_ok-mother-in-Inner.mother
    c.args.facts.now.items c.push_parts_facts.new.facts.items is_inner c.in_ok-mother-in-Inner.ensures count c.saturating_add-in-Inner.ensures)
    c.push_parts_facts.ensures

pub push_parts_facts-loop-part-preserved : goal.push_parts_facts-loop-part-preserved
push_parts_facts-loop-part-preserved t c =
    λ fits. parts_turn (parts_facts c.args.tokens.now c.args.mother.now) (facts_one c.args.tokens.now c.args.mother.now)
    c.args.parts.now c.loop-part.part-index c.part-item.result c.args.mother.now.from c.loop-part.at c.in_ok-at.at c.args.facts.now.items c.loop-part.facts.items c.push_part_facts.new.facts.items
    (omega arith) c.part-item.is fits (c.loop-part.invariant fits) c.in_ok-at.ensures
