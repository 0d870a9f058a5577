use Rattle.std.proofs.Common.{◌+◌, ◌<◌, ◌++◌, [], length, map, sym, subst, ap, ◌∙◌, arith, if◌then◌else◌}
use Rattle.lfg_context.specs.Sets.{member}
use Rattle.lfg_context.proofs.Growing.{grown_trans}
use Rattle.lfg_model.proofs.ListLaws.{In-at}
use Rattle.lfg_packed.specs.declared.key.ChoiceKey.{ChoiceKey}
use Rattle.lfg_instant.specs.Junctions.{placed}
use Rattle.lfg_instant.specs.Literals.{IsSiteKey, key_literals, key_size}
use Rattle.lfg_instant.proofs.SiteLiterals.{listed_one_more, sum_one_more}
use Rattle.lfg_instant.proofs.literals.literals_of.Goals as goal

pub add_literals-requires-clause-key : goal.add_literals-requires-clause-key
add_literals-requires-clause-key c =
    let P : ChoiceKey → Type 0 = λ k. IsSiteKey c.args.grammar.now c.args.tokens.now k in
    subst P (sym c.index-keys-place.is) (c.requires.keys _ (In-at c.args.keys.now c.loop-place.place c.index-keys-place.result c.loop-place-test.true))

pub loop-place-preserved : goal.loop-place-preserved
loop-place-preserved c =
    let g = c.args.grammar.now in
    let v = c.loop-place.invariant in
    let e = c.in_ok-add_literals.ensures in
    let i = c.loop-place.place in
    let l = c.loop-place-test.true in
    let m : i < length c.args.sets.now = omega (arith, l, c.requires.len) in
    let sum = sum_one_more (key_size g) c.args.keys.now i c.index-keys-place.result l c.index-keys-place.is in
    record {
      made = e.made;
      grown = grown_trans v.grown e.grown;
      picks = e.picks;
      count = e.count ∙ ap (λ n. n + key_size g c.index-keys-place.result) v.count ∙ sym sum;
      each = λ a.
          (let f = key_literals g c.args.tokens.now (map placed c.args.junctions.now) a in
          e.each a ∙ ap (λ ls. ls ++ (if member c.index-sets-place.result a then f c.index-keys-place.result else [])) (v.each a)
          ∙ sym (listed_one_more f c.args.keys.now c.args.sets.now a i c.index-keys-place.result c.index-sets-place.result l m c.index-keys-place.is c.index-sets-place.is));
    }
