use Rattle.std.proofs.Common.{arith, ◌≡◌, Some, slice_get, length, ap, ◌∙◌}
use Rattle.std.proofs.lemmas.Option.{slice_get-get_or}
use Rattle.lfg_model.specs.declared.point.Next.{Next}
use Rattle.lfg_model.specs.declared.point.Next.TheVariants as next
use Rattle.lfg_instant.specs.declared.steps.Step.{Step}
use Rattle.lfg_instant.specs.Steps.{IsStepAt}
use Rattle.lfg_instant.proofs.CollectLaws.{counted_none, counted_more, counted_same, collects_one, collects_along}
use Rattle.lfg_instant.proofs.StepLaws.{StepBy, one_step, no_step, steps_by}
use Rattle.lfg_instant.proofs.steps.add_steps.Goals as goal
use Rattle.lfg_instant.proofs.steps.add_steps.Goals.{in-Item+in_ok-clone+in_ok-push, in_default}

pub loop-number-init : goal.loop-number-init
loop-number-init c = counted_none c.args.steps.now.items (StepBy c.args.place c.args.point.now c.args.ways.now)

pub loop-number-preserved : goal.loop-number-preserved
loop-number-preserved c = elim c.match-way.branch [
  | in-Item+in_ok-clone+in_ok-push w ↦ rw w.steps-is (
      let new : Step = record { place = c.args.place; point = w.in_ok-clone.field-0; number = c.loop-number.number; of = length c.args.ways.now; occ = w.in-Item.occ; to = w.in-Item.to } in
      let same : w.in_ok-clone.field-0 ≡ c.args.point.now = w.in_ok-clone.ensures.cases in
      let way : slice_get c.args.ways.now c.loop-number.number ≡ Some (next.Item w.in-Item.occ w.in-Item.to) = slice_get-get_or c.args.ways.now c.loop-number.number (next.Item 0 0) c.loop-number-test.true ∙ ap (λ (n : Next). Some n) w.in-Item.is in
      counted_more c.args.steps.now.items c.loop-number.steps.items w.push.new.self.items (StepBy c.args.place c.args.point.now c.args.ways.now) (λ st. st ≡ new) c.loop-number.number
      c.loop-number.invariant (collects_one c.loop-number.steps.items w.push.new.self.items new w.in_ok-push.ensures.items)
      (λ st. rw same (one_step c.args.place c.args.point.now c.args.ways.now c.loop-number.number w.in-Item.occ w.in-Item.to way st)))
  | in_default w ↦ rw w.steps-is (counted_same c.args.steps.now.items c.loop-number.steps.items (StepBy c.args.place c.args.point.now c.args.ways.now) c.loop-number.number c.loop-number.invariant
      (λ st. no_step c.args.place c.args.point.now c.args.ways.now c.loop-number.number next.End
      (slice_get-get_or c.args.ways.now c.loop-number.number (next.Item 0 0) c.loop-number-test.true ∙ ap (λ (n : Next). Some n) w.in_default.is)
      (λ occ to e. w.in_default.not-Item occ to (w.in_default.is ∙ e)) st))
]

pub returns : goal.returns
returns c = collects_along c.args.steps.now.items c.loop-number.steps.items _ (IsStepAt c.args.place c.args.point.now c.args.ways.now)
    (λ st. steps_by c.args.place c.args.point.now c.args.ways.now c.loop-number.number (omega (arith, c.loop-number-test.false)) st) c.loop-number.invariant
