use Rattle.std.proofs.Common.{◌≤◌, arith}
use Rattle.lfg_rulegraph.proofs.Searching.{list_at, followers_ascend, followers_exact}
use Rattle.lfg_rulegraph.proofs.follow.follows.Goals as goal

pub is_among-requires-2 : goal.is_among-requires-2
is_among-requires-2 g c =
    let some : 1 ≤ c.args.q = omega (arith, c.if-q-eq0.false) in
    followers_ascend c.args.graph.now c.args.q c.list-3.result.now c.requires.graph some c.requires.before (list_at c.args.graph.now.next _ _ _ _ c.list-3.ensures c.index-list-q.is c.list-2.ensures)

pub returns-clause-follows : goal.returns-clause-follows
returns-clause-follows g c =
    let some : 1 ≤ c.args.q = omega (arith, c.if-q-eq0.false) in
    let r = followers_exact c.args.graph.now c.args.q c.args.p c.list-3.result.now c.requires.graph some c.requires.before (list_at c.args.graph.now.next _ _ _ _ c.list-3.ensures c.index-list-q.is c.list-2.ensures) in
    ((λ t. r.1 (c.is_among-2.ensures.0 t)), (λ h. c.is_among-2.ensures.1 (r.0 h)))
