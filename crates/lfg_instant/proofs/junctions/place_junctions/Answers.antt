use Rattle.std.proofs.Common.{◌≡◌, ◌<◌, ℕ, length, get_or, refl, arith}
use Rattle.std.proofs.lemmas.Option.{slice_get-get_or}
use Rattle.lfg_packed.specs.declared.key.ChoiceKey.{ChoiceKey}
use Rattle.lfg_instant.specs.Junctions.{IsJunction, at_place, IsNumberJunction}
use Rattle.lfg_instant.proofs.CollectLaws.{counted_more}
use Rattle.lfg_instant.proofs.JunctionLaws.{number_same}
use Rattle.lfg_instant.proofs.junctions.place_junctions.Goals as goal

pub loop-place-preserved : goal.loop-place-preserved
loop-place-preserved c =
    let k : ChoiceKey = c.args.key.now in
    let ns = c.args.numbers.now in
    let m = c.loop-place.place in
    let n : ℕ = get_or ns m 0 in
    let key : ChoiceKey = record { edge = c.in_ok-clone.field-0; rank = k.rank; from = k.from; to = k.to; item = k.item; place = c.in-Ok.place } in
    let l : m < length ns = omega arith in
    let same : c.in_ok-clone.field-0 ≡ k.edge = c.in_ok-clone.ensures.cases in
    let number : c.in-Ok.place ≡ m = omega (arith, c.in-Ok.ensures) in
    let is : key ≡ at_place k m = λ i. record { edge = same i; rank = k.rank; from = k.from; to = k.to; item = k.item; place = number i } in
    counted_more c.args.junctions.now.items c.loop-place.junctions.items c.push_junction.new.junctions.items (λ i j. IsNumberJunction k ns i j) (IsJunction key n) m c.loop-place.invariant c.in_ok-push_junction.ensures
    (number_same k ns m n key n (slice_get-get_or ns m 0 l) is refl)
