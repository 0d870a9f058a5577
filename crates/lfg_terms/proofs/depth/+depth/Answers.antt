use Rattle.std.proofs.Common.{rules, ◌≡◌, ◌≤◌, map, ap, ◌∙◌, arith, get_or}
use Rattle.std.proofs.lemmas.Grind.{common_steps}
use Rattle.lfg_terms.specs.Order.{greatest, node_depth, arg_depth}
use Rattle.lfg_terms.proofs.Greatest.{greatest_more, greatest-within}
use Rattle.lfg_terms.proofs.Depths.{arg_depth-Atom, arg_depth-Node}
use Rattle.lfg_terms.proofs.depth.+depth.Goals as goal
use Rattle.lfg_terms.proofs.depth.+depth.Goals.{is_deeper_than_all-in-Atom-y, is_deeper_than_all-in-Node-y+else-not-is_deeper}

pub is_deeper_than_all-returns-then-not-is_deeper :
    goal.is_deeper_than_all-returns-then-not-is_deeper
is_deeper_than_all-returns-then-not-is_deeper t c =
    let d = greatest-within arg_depth c.args.ys.now c.loop-y.y-index c.y-item.result c.loop-y-test.true in
    let e : arg_depth c.y-item.result ≤ greatest (map arg_depth c.args.ys.now) = rw c.y-item.is d in
    let f : arg_depth c.y-item.result ≡ node_depth c.in-Node-y.other = ap arg_depth c.in-Node-y.is ∙ arg_depth-Node c.in-Node-y.other in
    let g : arg_depth c.args.x.now ≡ node_depth c.in-Node.node = ap arg_depth c.in-Node.is ∙ arg_depth-Node c.in-Node.node in
    search rules

pub is_deeper_than_all-loop-y-preserved : goal.is_deeper_than_all-loop-y-preserved
is_deeper_than_all-loop-y-preserved t c =
    let e = greatest_more arg_depth c.args.ys.now c.loop-y.y-index c.y-item.result c.loop-y-test.true in
    let f : arg_depth c.y-item.result ≡ arg_depth (get_or c.args.ys.now c.loop-y.y-index c.y-item.result) = ap arg_depth c.y-item.is in
    elim c.match-y.branch [
      | is_deeper_than_all-in-Atom-y w ↦
          let g : arg_depth c.y-item.result ≡ 0 = ap arg_depth w.in-Atom-y.is ∙ arg_depth-Atom w.in-Atom-y.field-0 in search rules
      | is_deeper_than_all-in-Node-y+else-not-is_deeper w ↦
          let g : arg_depth c.y-item.result ≡ node_depth w.in-Node-y.other = ap arg_depth w.in-Node-y.is ∙ arg_depth-Node w.in-Node-y.other in search rules
    ]

pub is_deeper_than_all-returns-after-loop-y : goal.is_deeper_than_all-returns-after-loop-y
is_deeper_than_all-returns-after-loop-y t c =
    let g : arg_depth c.args.x.now ≡ node_depth c.in-Node.node = ap arg_depth c.in-Node.is ∙ arg_depth-Node c.in-Node.node in
    grind (arith, common_steps)

pub some_deeper-returns-then-is_deeper_than_all : goal.some_deeper-returns-then-is_deeper_than_all
some_deeper-returns-then-is_deeper_than_all t c =
    let d = greatest-within arg_depth c.args.xs.now c.loop-x.x-index c.x-item.result c.loop-x-test.true in
    let e : arg_depth c.x-item.result ≤ greatest (map arg_depth c.args.xs.now) = rw c.x-item.is d in
    search rules

pub some_deeper-loop-x-preserved : goal.some_deeper-loop-x-preserved
some_deeper-loop-x-preserved t c =
    let e = greatest_more arg_depth c.args.xs.now c.loop-x.x-index c.x-item.result c.loop-x-test.true in
    search rules
