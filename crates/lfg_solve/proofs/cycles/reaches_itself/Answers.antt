use Rattle.std.proofs.Common.{◌≡◌, ◌∙◌, arith}
use Rattle.std.proofs.lemmas.Grind.{common_steps}
use Rattle.lfg_solve.proofs.Marking.{marked_under}
use Rattle.lfg_solve.proofs.cycles.reaches_itself.Goals as goal

pub returns : goal.returns
returns c =
    let unchanged : c.step_down.new.marks ≡ c.loop.marks.items = c.step_down.ensures.unchanged c.loop-test.false ∙ c.deref_mut.ensures.value in
    let same : c.deref.result.now ≡ c.loop.marks.items = grind (arith, common_steps) in
    let t = rw same at c.is_marked.ensures in
    λ w.
    let m = marked_under c.args.arcs.now c.args.members.now c.args.count c.args.class c.loop.marks.items w c.loop.invariant.length c.loop.invariant.under
    (rw c.deref_mut.ensures.value at (c.step_down.ensures.along c.loop-test.false)) (rw c.deref_mut.ensures.value at (c.step_down.ensures.entered c.loop-test.false)) in
    (λ e. m.0 (t.0 e), λ u. t.1 (m.1 u))
