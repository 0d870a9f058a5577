use Rattle.std.proofs.Common.{◌++◌, List, ap, subst, ◌∙◌, arith}
use Rattle.std.specs.Prelude.{IfOk}
use Rattle.std.specs.List.{flat_map}
use Rattle.lfg_terms.specs.Order.{node_cmp}
use Rattle.lfg_terms.specs.declared.node.Node.{Node}
use Rattle.lfg_model.specs.Lists.{In, Lists}
use Rattle.lfg_model.specs.Literals.{checks_of, starts}
use Rattle.lfg_solve.proofs.Prefixes.{take_whole}
use Rattle.lfg_solve.proofs.nodes.with_starts.Goals as goal

pub returns : goal.returns
returns c =
    subst (λ (xs : List Node). IfOk c.sorted_set.result (λ set. Lists node_cmp (λ n. In n xs) set.items))
    (c.loop-literal.invariant ∙ ap (λ ls. c.args.defined.now ++ flat_map (λ l. flat_map starts (checks_of l)) ls) (take_whole c.loop-literal.literal-index c.args.literals.now (omega arith)))
    c.sorted_set.ensures
