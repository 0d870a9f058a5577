use Rattle.std.proofs.Common.{List, true, ap, subst, ◌∙◌, arith}
use Rattle.std.specs.Prelude.{IfOk}
use Rattle.std.specs.List.{flat_map}
use Rattle.lfg_terms.specs.Order.{node_cmp}
use Rattle.lfg_terms.specs.declared.node.Node.{Node}
use Rattle.lfg_model.specs.Lists.{In, Lists}
use Rattle.lfg_unify.specs.Marks.{found_in}
use Rattle.lfg_unify.proofs.Prefixes.{take_whole}
use Rattle.lfg_unify.proofs.nodes.all_nodes.Goals as goal

pub returns : goal.returns
returns c =
    subst (λ (xs : List Node). IfOk c.sorted_set.result (λ set. Lists node_cmp (λ n. In n xs) set.items))
    (c.loop-literal.invariant ∙ ap (λ ls. flat_map (λ l. found_in true l.0) ls) (take_whole c.loop-literal.literal-index c.args.literals.now (omega arith)))
    c.sorted_set.ensures
