use Rattle.std.proofs.Common.{◌≡◌, ◌<◌, ◌∙◌, length, ap, arith}
use Rattle.lfg_model.specs.Places.{places}
use Rattle.lfg_packed.specs.declared.key.ChoiceKey.{ChoiceKey}
use Rattle.lfg_packed.specs.Choices.{annotation_at}
use Rattle.lfg_instant.specs.Junctions.{IsPlaceJunction, IsSiteJunction}
use Rattle.lfg_instant.specs.Sites.{site_of_key}
use Rattle.lfg_instant.proofs.CollectLaws.{counted_more, place_is}
use Rattle.lfg_instant.proofs.JunctionLaws.{site_same}
use Rattle.lfg_instant.proofs.junctions.branch_junctions.Goals as goal

pub loop-place-preserved : goal.loop-place-preserved
loop-place-preserved c =
    let g = c.args.grammar.now in
    let keys = c.args.keys.now in
    let m = c.loop-place.place in
    let k : ChoiceKey = c.index-keys-place.result in
    let ns = c.deref.result.now in
    let l : m < length keys = omega arith in
    let is : ns ≡ places (annotation_at g (site_of_key k)) = c.deref.ensures.value ∙ c.in_ok-numbers.ensures ∙ ap places c.schemata_at.ensures in
    counted_more c.args.junctions.now.items c.loop-place.junctions.items c.place_junctions.new.junctions.items (λ i j. IsSiteJunction g keys i j) (IsPlaceJunction k ns) m c.loop-place.invariant c.in_ok-place_junctions.ensures
    (site_same g keys m k ns (place_is keys m k l c.index-keys-place.is) is)
