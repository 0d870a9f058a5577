use Rattle.std.proofs.Common.{arith, ◌≡◌, get_or, length}
use Rattle.std.proofs.lemmas.Option.{slice_get-get_or}
use Rattle.lfg_instant.specs.declared.steps.Word.{Word}
use Rattle.lfg_instant.specs.Steps.{IsWordAt}
use Rattle.lfg_instant.proofs.CollectLaws.{counted_none, counted_more, collects_one, collects_along}
use Rattle.lfg_instant.proofs.StepLaws.{WordBy, one_word, words_by}
use Rattle.lfg_instant.proofs.steps.add_words.Goals as goal

pub loop-number-init : goal.loop-number-init
loop-number-init c = counted_none c.args.words.now.items (WordBy c.args.place c.args.edge.now c.args.entries.now)

pub loop-number-preserved : goal.loop-number-preserved
loop-number-preserved c =
    let new : Word = record { place = c.args.place; edge = c.in_ok-clone.field-0; number = c.loop-number.number; of = length c.args.entries.now; entry = get_or c.args.entries.now c.loop-number.number 0 } in
    let same : c.in_ok-clone.field-0 ≡ c.args.edge.now = c.in_ok-clone.ensures.cases in
    counted_more c.args.words.now.items c.loop-number.words.items c.push.new.self.items (WordBy c.args.place c.args.edge.now c.args.entries.now) (λ w. w ≡ new) c.loop-number.number
    c.loop-number.invariant (collects_one c.loop-number.words.items c.push.new.self.items new c.in_ok-push.ensures.items)
    (λ w. rw same (one_word c.args.place c.args.edge.now c.args.entries.now c.loop-number.number (get_or c.args.entries.now c.loop-number.number 0) (slice_get-get_or c.args.entries.now c.loop-number.number 0 c.loop-number-test.true) w))

pub returns : goal.returns
returns c = collects_along c.args.words.now.items c.loop-number.words.items _ (IsWordAt c.args.place c.args.edge.now c.args.entries.now)
    (λ w. words_by c.args.place c.args.edge.now c.args.entries.now c.loop-number.number (omega (arith, c.loop-number-test.false)) w) c.loop-number.invariant
