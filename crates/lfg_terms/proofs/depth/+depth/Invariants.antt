use Rattle.std.proofs.Common.{◌<◌, ◌≤◌, map, take}
use Rattle.lfg_terms.specs.Order.{greatest, node_depth, arg_depth}
use Rattle.lfg_terms.proofs.depth.+depth.Given as goal

-- the node is deeper than the arguments so far
abbrev pub invariant-is_deeper_than_all-loop-y : goal.invariant-is_deeper_than_all-loop-y
invariant-is_deeper_than_all-loop-y l = greatest (map arg_depth (take l.y-index l.ys)) < node_depth l.node

-- no argument so far is deeper than all of `ys`
abbrev pub invariant-some_deeper-loop-x : goal.invariant-some_deeper-loop-x
invariant-some_deeper-loop-x l = greatest (map arg_depth (take l.x-index l.xs)) ≤ greatest (map arg_depth l.ys)
