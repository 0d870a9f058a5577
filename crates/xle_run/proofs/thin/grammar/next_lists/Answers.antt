use Rattle.xle_run.proofs.Graphs.{next_start, next_on, next_end}
use Rattle.std.proofs.Common.{◌≡◌, ◌∙◌, ◌++◌, ◌∷◌, [], ◌+◌, ◌-◌, suc, List, ℕ, ap, arith}
use Rattle.lfg_model.specs.Thin.{next_from}
use Rattle.xle_run.proofs.thin.grammar.next_lists.Goals as goal

pub loop-number-preserved : goal.loop-number-preserved
loop-number-preserved c =
    let e : c.in_ok-new.field-0 ≡ (c.loop-number.number + 1) ∷ [] = cc (c.in_ok-new.ensures, c.in_ok-vec.ensures.items) in
    next_on (next_from 1 c.args.size) c.loop-number.next.items c.push.new.self.items c.loop-number.number c.args.size c.loop-number-test.true c.loop-number.invariant
    (c.in_ok-push.ensures.items ∙ ap (λ (l : List ℕ). c.loop-number.next.items ++ l ∷ []) e)

pub loop-number-init : goal.loop-number-init
loop-number-init c = ap (λ (ls : List (List ℕ)). ls ++ next_from 1 (suc (c.args.size - 1))) c.new-next.ensures.items ∙ next_start c.args.size (omega arith)

pub returns : goal.returns
returns c =
    let e : c.in_ok-new-2.field-0 ≡ [] = cc (c.in_ok-new-2.ensures, c.new-2.ensures.items) in
    next_end (next_from 1 c.args.size) c.loop-number.next.items c.push-2.new.self.items c.loop-number.number c.args.size c.loop-number-test.false c.loop-number.invariant
    (c.in_ok-push-2.ensures.items ∙ ap (λ (l : List ℕ). c.loop-number.next.items ++ l ∷ []) e)
