use Rattle.std.proofs.Common.{take}
use Rattle.lfg_context.specs.Sets.{IsGrown, HasSamePicks}
use Rattle.lfg_context.specs.Telling.{InSome}
use Rattle.lfg_facts.specs.Adding.{Adds}
use Rattle.lfg_facts.specs.Stating.{AreEntries, IsFormOf}
use Rattle.lfg_facts.proofs.forms.push_form.Given as goal

abbrev pub invariant-loop-name : goal.invariant-loop-name
invariant-loop-name l = record {
  grown : IsGrown l.fn.contexts l.contexts;
  picks : HasSamePicks l.fn.contexts l.contexts;
  facts : AreEntries l.contexts l.facts.items;
  adds : Adds l.fn.facts.items l.facts.items (λ f. InSome (take l.name-index l.names) (IsFormOf l.form l.here f));
}
