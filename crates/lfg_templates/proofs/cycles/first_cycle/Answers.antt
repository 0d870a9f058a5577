use Rattle.std.proofs.Common.{List, subst}
use Rattle.lfg_terms.specs.declared.draft.Template.{Template}
use Rattle.lfg_model.specs.Lists.{In}
use Rattle.lfg_templates.proofs.Measures.{In_item}
use Rattle.lfg_templates.proofs.cycles.first_cycle.Goals as goal

pub with_cycle-requires-clause-among : goal.with_cycle-requires-clause-among
with_cycle-requires-clause-among c = subst (λ (ts : List Template). In c.template-item.result ts) c.list-list.ensures
    (In_item c.list-list.result.now c.loop-template.template-index c.template-item.result c.template-item.result c.loop-template-test.true c.template-item.is)
