use Rattle.std.proofs.Common.{◌∙◌, sym, subst, Option}
use Rattle.lfg_templates.specs.declared.heads.Heading.{Heading}
use Rattle.lfg_templates.specs.Headings.{Tells}
use Rattle.lfg_templates.proofs.HeadingLaws.{heading_first, heading_same, heading_again}
use Rattle.lfg_templates.proofs.heads.with_entry.Goals as goal

pub returns-in_default : goal.returns-in_default
returns-in_default c = λ hs h e t. heading_first hs h c.args.entry e (subst (λ (o : Option Heading). Tells hs h.name o) c.in_default.is t)

pub returns-then-heading-entry : goal.returns-then-heading-entry
returns-then-heading-entry c = λ hs h e t. heading_same hs h c.in-Some.heading (e ∙ sym c.if-heading-entry.true) (subst (λ (o : Option Heading). Tells hs h.name o) c.in-Some.is t)

pub returns : goal.returns
returns c = λ hs h e t. heading_again hs h c.in-Some.heading (λ f. c.if-heading-entry.false (sym f ∙ e)) (subst (λ (o : Option Heading). Tells hs h.name o) c.in-Some.is t)
