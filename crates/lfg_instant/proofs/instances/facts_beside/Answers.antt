use Rattle.std.proofs.Common.{◌≡◌, [], ◌∷◌, ◌++◌, sym, ◌∙◌, arith, rules}
use Rattle.lfg_terms.specs.declared.node.Fact.{Fact}
use Rattle.lfg_context.specs.Seen.{Set}
use Rattle.lfg_instant.proofs.InstantiateLaws.{beside_more}
use Rattle.lfg_instant.proofs.instances.facts_beside.Goals as goal

pub loop-place-preserved : goal.loop-place-preserved
loop-place-preserved c =
    let i = c.loop-place.place in
    let fact : Fact = c.index-facts-place.result in
    let set : Set = c.index-sets-place.result in
    let f = c.in_ok-clone.ensures in
    let l = c.loop-place-test.true in
    let p : c.in_ok-clone.field-0 ≡ fact = search rules in
    let q : c.in_ok-share.field-0 ≡ set = c.in_ok-share.ensures in
    record {
      are = c.in_ok-push.ensures.items ∙ (λ k. c.loop-place.invariant.are k ++ (p k, q k) ∷ []) ∙ sym (beside_more c.args.facts.now c.args.sets.now i fact set l (omega (arith, l, c.requires)) c.index-facts-place.is c.index-sets-place.is);
    }
