use Rattle.std.proofs.Common.{List, subst, ◌∙◌}
use Rattle.lfg_terms.specs.declared.draft.DraftRule.{DraftRule}
use Rattle.lfg_terms.specs.declared.draft.LexEntry.{LexEntry}
use Rattle.lfg_model.specs.Lists.{In}
use Rattle.lfg_model.specs.DraftForms.{rule_form, word_form}
use Rattle.lfg_model.proofs.ListLaws.{In-map}
use Rattle.lfg_templates.proofs.plain.plain.Goals as goal

pub expand_rules-requires : goal.expand_rules-requires
expand_rules-requires c = λ r i. rw c.requires.templates (c.requires.leads.rules (rule_form r) (In-map rule_form (subst (λ (xs : List DraftRule). In r xs) c.list-2.ensures i)))

pub expand_readings-requires : goal.expand_readings-requires
expand_readings-requires c = λ r i. rw c.requires.templates (c.requires.leads.words (word_form r) (In-map word_form (subst (λ (xs : List LexEntry). In r xs) c.list-3.ensures i)))

pub returns : goal.returns
returns c = record {
  settings = c.in_ok-new.ensures ∙ c.in_ok-settings.ensures ∙ c.list.ensures;
  rules = rw c.in_ok-new-2.ensures (rw (← c.requires.templates, ← c.list-2.ensures) c.in_ok-rules.ensures);
  words = rw c.in_ok-new-3.ensures (rw (← c.requires.templates, ← c.list-3.ensures) c.in_ok-entries.ensures);
}
