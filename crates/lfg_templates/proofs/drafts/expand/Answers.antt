use Rattle.lfg_model.specs.DraftForms.{draft_form}
use Rattle.lfg_templates.proofs.Exactly.{accepted, broken}
use Rattle.lfg_templates.proofs.drafts.expand.Goals as goal

pub returns-clause-accepted : goal.returns-clause-accepted
returns-clause-accepted c = accepted (draft_form c.args.draft.now) c.expand_checked.result c.expand_checked.ensures.refused

pub returns-clause-broken : goal.returns-clause-broken
returns-clause-broken c = broken (draft_form c.args.draft.now) c.expand_checked.result c.expand_checked.ensures.expanded c.expand_checked.ensures.refused
