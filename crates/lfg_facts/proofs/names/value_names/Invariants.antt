use Rattle.std.proofs.Common.{[], ◌≤◌, length, take}
use Rattle.lfg_context.specs.Sets.{AreMade, IsGrown, HasSamePicks}
use Rattle.lfg_context.specs.Telling.{InSome}
use Rattle.lfg_facts.specs.Adding.{Adds}
use Rattle.lfg_facts.specs.Naming.{IsValueName}
use Rattle.lfg_facts.proofs.names.value_names.Given as goal

abbrev pub invariant-loop-number : goal.invariant-loop-number
invariant-loop-number l = record {
  grown : IsGrown l.fn.contexts l.contexts;
  picks : HasSamePicks l.fn.contexts l.contexts;
  made : AreMade l.contexts (λ n. n.1) l.names.items;
  number : l.number ≤ length l.closure.values;
  adds : Adds [] l.names.items (λ c. InSome (take l.number l.closure.values) (IsValueName l.closure l.place c));
}
