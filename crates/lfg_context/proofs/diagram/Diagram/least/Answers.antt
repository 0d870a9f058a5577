use Rattle.std.proofs.Common.{◌≡◌, ◌+◌, ℕ, List, sym, subst, arith}
use Rattle.lfg_context.specs.Tables.{arity_in}
use Rattle.lfg_context.specs.Least.{IsPath, IsLeastOf}
use Rattle.lfg_context.proofs.LeastLaws.{path_step, path_end, some_top}
use Rattle.lfg_context.proofs.diagram.Diagram.least.Goals as goal

pub loop-choice-preserved : goal.loop-choice-preserved
loop-choice-preserved c =
    let path = c.loop-choice.invariant in
    let top = some_top c.args.self.now.nodes.entries c.loop-choice.left path.number in
    let P : List ℕ → Type 0 = λ v. IsPath c.args.self.now.nodes.entries (arity_in c.args.arities.now) c.args.number v (c.loop-choice.choice + 1) c.least_step-alternative.result.1 in
    subst P (sym c.in_ok-push.ensures.items)
    (path_step c.args.self.now.nodes.entries _ _ c.loop-choice.choice c.args.number c.loop-choice.left c.least_step-alternative.result.0 c.least_step-alternative.result.1 c.loop-choice.least.items c.requires.table top.0 top.1 path c.least_step-alternative.ensures)

pub returns : goal.returns
returns c =
    let path = c.loop-choice.invariant in
    let top = some_top c.args.self.now.nodes.entries c.loop-choice.left path.number in
    let end : c.loop-choice.choice ≡ c.args.len = omega arith in
    let P : ℕ → Type 0 = λ v. IsLeastOf c.args.self.now.nodes.entries (arity_in c.args.arities.now) c.args.number v c.loop-choice.least.items in
    subst P end
    (path_end c.args.self.now.nodes.entries (arity_in c.args.arities.now) _ c.loop-choice.choice c.args.number c.loop-choice.left c.loop-choice.least.items c.requires.table top.0 top.1 path (λ e h. c.requires.blind e (omega arith)))
