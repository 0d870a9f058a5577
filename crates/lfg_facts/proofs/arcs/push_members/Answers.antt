use Rattle.std.proofs.Common.{◌<◌, ◌∙◌, List, length, get_or, ap, arith}
use Rattle.lfg_terms.specs.declared.node.Node.{Node}
use Rattle.lfg_context.specs.Seen.{Set}
use Rattle.lfg_context.proofs.Growing.{grown_trans, same_picks_trans, are_made_grown, made_at}
use Rattle.lfg_facts.specs.Stating.{IsMemberFact}
use Rattle.lfg_facts.proofs.AddLaws.{listed_more, listed_all}
use Rattle.lfg_facts.proofs.arcs.push_members.Goals as goal

pub push_member-requires-clause-made : goal.push_member-requires-clause-made
push_member-requires-clause-made c =
    let n = c.loop-number.number in
    let d = c.index-members-number.result in
    made_at n d (are_made_grown c.loop-number.invariant.grown c.requires.closure.is.made.members) (let e = ap length c.members-members.ensures in omega (arith, e))
    (c.index-members-number.is ∙ ap (λ (vs : List (Node × Node × Set)). get_or vs n d) c.members-members.ensures)

pub loop-number-preserved : goal.loop-number-preserved
loop-number-preserved c =
    let n = c.loop-number.number in
    let d = c.index-members-number.result in
    let inv = c.loop-number.invariant in
    let within : n < length c.args.closure.now.members = (let e = ap length c.members-members.ensures in omega (arith, e)) in
    record {
      grown = grown_trans inv.grown c.in_ok-push_member.ensures.grown;
      picks = same_picks_trans inv.picks c.in_ok-push_member.ensures.picks;
      facts = c.in_ok-push_member.ensures.facts;
      number = omega (arith, within);
      adds = listed_more (λ f. IsMemberFact c.args.closure.now c.args.table.now c.args.good.now f) c.args.closure.now.members n d within
          (c.index-members-number.is ∙ ap (λ (vs : List (Node × Node × Set)). get_or vs n d) c.members-members.ensures) inv.adds c.in_ok-push_member.ensures.adds;
    }

pub returns-clause-adds : goal.returns-clause-adds
returns-clause-adds c =
    listed_all (λ f. IsMemberFact c.args.closure.now c.args.table.now c.args.good.now f) c.args.closure.now.members c.loop-number.number (let e = ap length c.members-members.ensures in omega (arith, e)) c.loop-number.invariant.adds
