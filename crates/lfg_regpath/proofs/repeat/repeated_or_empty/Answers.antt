use Rattle.std.proofs.Common.{◌≡◌, ◌⊎◌, [], subst, ◌∙◌}
use Rattle.std.proofs.lemmas.Result.{err_from_is_err_and}
use Rattle.lfg_model.specs.Lists.{In}
use Rattle.lfg_model.specs.Terms.{Path}
use Rattle.lfg_regpath.specs.Sets.{IsRepeat, Overfull}
use Rattle.lfg_regpath.proofs.SetLaws.{over_onto}
use Rattle.lfg_regpath.proofs.repeat.repeated_or_empty.Goals as goal

pub returns-in_err-add-clause-full : goal.returns-in_err-add-clause-full
returns-in_err-add-clause-full c =
    let p = err_from_is_err_and c.from_residual-in_err-add.result c.from_residual-in_err-add.ensures.1 in
    rw (p.1, p.2) (over_onto (IsRepeat c.args.paths.now c.args.limit) (λ w. w ≡ []) c.in_err-add.field-0.0 c.in_ok-set.ensures.all
    (subst (λ (z : Path). Overfull (λ w. In w c.in_ok-set.set.items ⊎ (w ≡ z)) c.in_err-add.field-0.0) (c.in_ok-empty.ensures ∙ c.new.ensures.items) c.in_err-add.ensures.full))
