use Rattle.std.proofs.Common.{rules, arith}
use Rattle.lfg_model.proofs.ListLaws.{In-at}
use Rattle.lfg_rulegraph.proofs.FollowerLaws.{followers_none, followers_more}
use Rattle.lfg_rulegraph.proofs.graphs.followers.Goals as goal

pub loop-link-init : goal.loop-link-init
loop-link-init c = record { length = c.in_ok-lists.ensures.length; exact = followers_none _ c.in_ok-lists.ensures.empty }

pub overflow_sub-link : goal.overflow_sub-link
overflow_sub-link c = (c.requires _ (In-at c.args.links.now c.loop-link.link-index (record { from = 0; to = 0 }) c.loop-link-test.true)).0

pub push_at-requires : goal.push_at-requires
push_at-requires c =
    let r = c.requires _ (In-at c.args.links.now c.loop-link.link-index (record { from = 0; to = 0 }) c.loop-link-test.true) in
    omega (arith, r.0, r.1, c.loop-link.invariant.length)

pub loop-link-preserved : goal.loop-link-preserved
loop-link-preserved c =
    let r = c.requires _ (In-at c.args.links.now c.loop-link.link-index (record { from = 0; to = 0 }) c.loop-link-test.true) in
    record {
      length = search rules;
      exact = followers_more c.args.links.now c.loop-link.link-index (record { from = 0; to = 0 }) _ _ c.loop-link-test.true r.0 c.loop-link.invariant.exact c.in_ok-push_at.ensures.pushed;
    }
