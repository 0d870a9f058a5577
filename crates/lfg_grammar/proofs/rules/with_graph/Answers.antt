use Rattle.std.proofs.Common.{◌≡◌, Result, ap, ◌∙◌}
use Rattle.std.proofs.lemmas.Result.{err_from_is_err_and}
use Rattle.lfg_grammar.specs.Halves.{memory}
use Rattle.lfg_grammar.proofs.HalfLaws.{half_rule, half_fault}
use Rattle.lfg_grammar.proofs.rules.with_graph.Goals as goal

pub returns-in_err-new-in-Ok-clause-fault : goal.returns-in_err-new-in-Ok-clause-fault
returns-in_err-new-in-Ok-clause-fault c = λ depth r h.
    let p = err_from_is_err_and c.from_residual.result c.from_residual.ensures.1 in
    rw (p.1, p.2) memory

pub returns-in_ok-new-in-Ok-clause-rule : goal.returns-in_ok-new-in-Ok-clause-rule
returns-in_ok-new-in-Ok-clause-rule c = λ depth r h. half_rule depth r c.args.half c.in-Ok.graph c.in_ok-new-in-Ok.field-0 h c.in-Ok.is c.in_ok-new-in-Ok.ensures

pub returns-in-Err-clause-fault : goal.returns-in-Err-clause-fault
returns-in-Err-clause-fault c = λ depth r h. half_fault depth r c.args.half c.in-Err.fault c.graph_fault.result h c.in-Err.is c.graph_fault.ensures
