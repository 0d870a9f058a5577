use Rattle.std.proofs.Common.{◌≡◌, true, false, sym, ◌∙◌}
use Rattle.std.proofs.lemmas.Bool.{false≢true}
use Rattle.lfg_unify.proofs.ClashLaws.{no_differs, differs_tells}
use Rattle.lfg_unify.proofs.clash.differing.Goals as goal

pub returns-then-same_constant-clause-tells : goal.returns-then-same_constant-clause-tells
returns-then-same_constant-clause-tells c = no_differs c.args.table.now c.args.first.now c.args.second.now c.no.result (c.same_constant.ensures.0 c.if-same_constant.true) c.no.ensures.members

pub returns-clause-tells : goal.returns-clause-tells
returns-clause-tells c =
    differs_tells c.args.table.now c.args.first.now c.args.second.now c.in_ok-all.all (λ e. false≢true (sym c.if-same_constant.false ∙ c.same_constant.ensures.1 e)) c.in_ok-all.ensures.tells
