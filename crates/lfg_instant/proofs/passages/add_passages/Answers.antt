use Rattle.std.proofs.Common.{◌≡◌, ◌<◌, ℕ, get_or, length, sym, arith}
use Rattle.std.proofs.lemmas.Option.{slice_get-get_or, get_or_from_slice_get}
use Rattle.lfg_instant.specs.declared.flow.Passage.{Passage}
use Rattle.lfg_instant.proofs.CollectLaws.{listed_none, listed_more, listed_all, collects_one}
use Rattle.lfg_instant.proofs.PassageLaws.{leads_some}
use Rattle.lfg_instant.proofs.passages.add_passages.Goals as goal

pub loop-place-init : goal.loop-place-init
loop-place-init c =
    let Q : ℕ → Passage → Type 0 = λ i p. p ≡ record { from = c.args.from; pick = c.args.pick; to = i } in
    listed_none c.args.passages.now.items Q c.args.places.now

pub loop-place-preserved : goal.loop-place-preserved
loop-place-preserved c =
    let Q : ℕ → Passage → Type 0 = λ i p. p ≡ record { from = c.args.from; pick = c.args.pick; to = i } in
    let n = c.loop-place.place-index in
    let d = get_or c.args.places.now n 0 in
    let l : n < length c.args.places.now = omega arith in
    listed_more c.args.passages.now.items c.loop-place.passages.items c.push.new.self.items Q c.args.places.now n d l (sym (get_or_from_slice_get c.args.places.now n d d (slice_get-get_or c.args.places.now n 0 l)))
    c.loop-place.invariant (collects_one c.loop-place.passages.items c.push.new.self.items (record { from = c.args.from; pick = c.args.pick; to = d }) c.in_ok-push.ensures.items)

pub returns : goal.returns
returns c =
    let Q : ℕ → Passage → Type 0 = λ i p. p ≡ record { from = c.args.from; pick = c.args.pick; to = i } in
    leads_some c.args.from c.args.pick c.args.places.now c.args.passages.now.items c.loop-place.passages.items
    (listed_all c.args.passages.now.items c.loop-place.passages.items Q c.args.places.now c.loop-place.place-index (omega arith) c.loop-place.invariant)
