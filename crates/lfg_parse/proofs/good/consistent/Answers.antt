use Rattle.std.proofs.Common.{subst, sym}
use Rattle.lfg_context.specs.Seen.{Set}
use Rattle.lfg_context.specs.Telling.{Excludes}
use Rattle.lfg_model.specs.Solve.{solution, Clash}
use Rattle.lfg_unify.specs.Holding.{holding}
use Rattle.lfg_unify.proofs.Closed.{clash_excludes}
use Rattle.lfg_parse.proofs.Closures.{consistent_left}
use Rattle.lfg_parse.proofs.good.consistent.Goals as goal

pub returns-clause-tells : goal.returns-clause-tells
returns-clause-tells c =
    let P : Set → Type 0 = λ z. Excludes z (λ a. ¬ Clash (solution (holding c.args.literals.now a))) in
    consistent_left c.args.literals.now c.yes-all.result c.clash.result.now c.in_ok-unclashing.unclashing c.in_ok-failing.failing c.in_ok-consistent.consistent c.yes-all.ensures.members
    c.in_ok-unclashing.ensures.ok.members c.in_ok-consistent.ensures.ok.members (subst P (sym c.clash.ensures) (clash_excludes c.requires.closure)) c.in_ok-failing.ensures.fails
