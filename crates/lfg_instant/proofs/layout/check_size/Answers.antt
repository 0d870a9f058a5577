use Rattle.std.proofs.Common.{map, arith}
use Rattle.lfg_instant.specs.Junctions.{placed}
use Rattle.lfg_instant.proofs.CountLaws.{is_within, is_too_large}
use Rattle.lfg_instant.proofs.InstantiateLaws.{total_of, sites_of_keys}
use Rattle.lfg_instant.proofs.layout.check_size.Goals as goal

pub returns-then-total-max-clause-within : goal.returns-then-total-max-clause-within
returns-then-total-max-clause-within c =
    let g = c.args.grammar.now in
    let s = c.args.tokens.now in
    let it = c.args.layout.now in
    let keys = it.keys.items in
    let js = it.junctions.items in
    let facts = it.facts.items in
    let are = c.requires.outline.all_keys in
    let is = total_of g c.deref.result.now keys js facts _ _ _ _ c.deref.ensures.value c.literal_total-literals.ensures (omega (arith, c.len.ensures, it.junctions.ok.0)) (omega (arith, c.len-2.ensures, it.facts.ok.0)) c.instance_total-total.ensures in
    is_within g s keys (map placed js) facts (sites_of_keys g s keys are) c.requires.junctions.choices c.requires.outline.all_facts c.instance_total-total.result c.args.max is (omega (arith, c.ranges.max.fits)) (omega (arith, c.if-total-max.true))

pub returns-in-Some-clause-fault : goal.returns-in-Some-clause-fault
returns-in-Some-clause-fault c =
    let g = c.args.grammar.now in
    let s = c.args.tokens.now in
    let it = c.args.layout.now in
    let keys = it.keys.items in
    let js = it.junctions.items in
    let facts = it.facts.items in
    let are = c.requires.outline.all_keys in
    let is = total_of g c.deref.result.now keys js facts _ _ _ _ c.deref.ensures.value c.literal_total-literals.ensures (omega (arith, c.len.ensures, it.junctions.ok.0)) (omega (arith, c.len-2.ensures, it.facts.ok.0)) c.instance_total-total.ensures in (
      is_too_large g s keys (map placed js) facts (sites_of_keys g s keys are) c.requires.junctions.choices c.requires.outline.all_facts c.instance_total-total.result c.args.max is (omega (arith, c.if-total-max.false)),
      c.in-Some.ensures.1,
    )
