use Rattle.std.proofs.Common.{◌+◌, ◌++◌, ◌∙◌, ◌<◌, ◌≤◌, ℕ, List, map, length, get_or, ap, arith}
use Rattle.lfg_grammar.specs.Reach.{link}
use Rattle.lfg_grammar.proofs.UnaryLaws.{links_more, all_links}
use Rattle.lfg_grammar.proofs.unary.links_of.Goals as goal

pub loop-place-preserved : goal.loop-place-preserved
loop-place-preserved c =
    let l : c.loop-place.place < length c.args.graph.now.next = omega (arith, ap length c.list-items-items.ensures) in
    links_more c.args.graph.now c.loop-place.place c.items-item.result c.loop-place.links.items c.push_links-in-loop-place.new.links.items l c.loop-place.invariant
    (c.in_ok-push_links-2.ensures ∙ ap (λ (ps : List ℕ). c.loop-place.links.items ++ map (link (c.loop-place.place + 1)) ps) (c.list-in-loop-place.ensures ∙ c.items-item.is ∙ ap (λ (rows : List (List ℕ)). get_or rows c.loop-place.place c.items-item.result) c.list-items-items.ensures))

pub returns : goal.returns
returns c =
    let l : length c.args.graph.now.next ≤ c.loop-place.place = omega (arith, ap length c.list-items-items.ensures) in
    all_links c.args.graph.now c.loop-place.place c.loop-place.links.items l c.loop-place.invariant
