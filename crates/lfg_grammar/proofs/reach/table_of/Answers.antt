use Rattle.std.proofs.Common.{rules, arith, get_or, refl}
use Rattle.lfg_model.proofs.ListLaws.{In-at}
use Rattle.lfg_grammar.proofs.Reaching.{table_none, table_more}
use Rattle.lfg_grammar.specs.Reach.{link}
use Rattle.lfg_grammar.proofs.reach.table_of.Goals as goal

pub loop-link-init : goal.loop-link-init
loop-link-init c = record { length = c.in_ok-next.ensures.length; table = table_none _ c.in_ok-next.ensures.empty }

pub push_at-requires : goal.push_at-requires
push_at-requires c =
    let r = c.requires _ (In-at c.args.links.now c.loop-link.link-index (link 0 0) c.loop-link-test.true) in
    omega (arith, r, c.loop-link.invariant.length)

pub loop-link-preserved : goal.loop-link-preserved
loop-link-preserved c = record {
  length = search rules;
  table = table_more c.args.links.now c.loop-link.link-index (get_or c.args.links.now c.loop-link.link-index (link 0 0)) (link 0 0) _ _ c.loop-link-test.true refl c.loop-link.invariant.table c.in_ok-push_at.ensures.pushed;
}
