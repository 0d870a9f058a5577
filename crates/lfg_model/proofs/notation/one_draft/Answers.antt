use Rattle.lfg_model.proofs.DraftLaws.{some_draft, one_draft, one_fault, never_both}
use Rattle.lfg_model.proofs.notation.one_draft.Goals as goal

pub returns-clause-drafts : goal.returns-clause-drafts
returns-clause-drafts c = one_draft

pub returns-clause-faults : goal.returns-clause-faults
returns-clause-faults c = one_fault

pub returns-clause-never_both : goal.returns-clause-never_both
returns-clause-never_both c = never_both

pub returns-clause-some : goal.returns-clause-some
returns-clause-some c = some_draft
