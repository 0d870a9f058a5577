use Rattle.std.proofs.Common.{◌≡◌, ◌+◌, ◌*◌, ◌-◌, ◌++◌, drop}
use Rattle.std.specs.List.{flat_map}
use Rattle.lfg_model.specs.PairTexts.{branches_under, branch_text, text_below}
use Rattle.lfg_unpack.proofs.texts.+tree.Given as goal

abbrev pub decreases-push_tree : goal.decreases-push_tree
decreases-push_tree l = 2 * l.depth

abbrev pub decreases-push_branch : goal.decreases-push_branch
decreases-push_branch l = 2 * l.depth + 1

abbrev pub invariant-push_tree-loop-fact : goal.invariant-push_tree-loop-fact
invariant-push_tree-loop-fact l =
    l.text.items ++ flat_map (branch_text (text_below (l.depth - 1) l.facts)) (branches_under (drop l.fact-index l.facts) l.edge)
    ≡ l.initial.text.items ++ flat_map (branch_text (text_below (l.depth - 1) l.facts)) (branches_under l.facts l.edge)
