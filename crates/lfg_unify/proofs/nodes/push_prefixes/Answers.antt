use Rattle.std.proofs.Common.{◌≡◌, ◌++◌, ◌-◌, [], ◌∷◌, length, ap, sym, ◌∙◌, append_assoc, arith}
use Rattle.std.proofs.lemmas.List.{append-nil}
use Rattle.lfg_unify.proofs.Prefixes.{on_the_way, on_the_way-none, on_the_way-more, on_the_way-all}
use Rattle.lfg_unify.proofs.nodes.push_prefixes.Goals as goal

pub loop-length-init : goal.loop-length-init
loop-length-init c = sym (ap (λ z. c.args.nodes.now.items ++ z) (on_the_way-none c.args.edge.now c.args.path.now) ∙ append-nil c.args.nodes.now.items)

pub loop-length-preserved : goal.loop-length-preserved
loop-length-preserved c =
    let k = c.loop-length.length in
    let z : k - 0 ≡ k = omega arith in
    let e = on_the_way-more k c.args.edge.now c.args.path.now in
    let a = append_assoc c.args.nodes.now.items (on_the_way k c.args.edge.now c.args.path.now) (c.in_ok-node_at.field-0 ∷ []) in
    let p = c.in_ok-push.ensures.items in
    let n = c.in_ok-node_at.ensures in
    cc

pub returns : goal.returns
returns c =
    let z : c.loop-length.length ≡ length c.args.path.now = omega arith in
    let e = on_the_way-all c.args.edge.now c.args.path.now in
    let a = append_assoc c.args.nodes.now.items (on_the_way (length c.args.path.now) c.args.edge.now c.args.path.now) (c.in_ok-node_at-2.field-0 ∷ []) in
    let p = c.in_ok-push-2.ensures.items in
    let n = c.in_ok-node_at-2.ensures in
    cc
