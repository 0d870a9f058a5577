use Rattle.std.proofs.Common.{◌≡◌, ◌<◌, ℕ, [], ◌++◌, length, get_or, map, take}
use Rattle.lfg_context.specs.Sets.{IsMade, AreMade, IsGrown, HasSamePicks}
use Rattle.lfg_context.specs.Telling.{Tells, Excludes, InSome, OfAll}
use Rattle.lfg_wellformed.specs.Steps.{arc_step, member_step, LeadsOn, StepsOn, IsIn, TellsEach, AreLasting, EntryLeads, IsOn}
use Rattle.lfg_wellformed.proofs.cycles.anywhere.Given as goal

abbrev pub invariant-loop-set : goal.invariant-loop-set
invariant-loop-set l = record {
  grown : IsGrown l.fn.contexts l.contexts;
  picks : HasSamePicks l.fn.contexts l.contexts;
  made : IsMade l.contexts l.found;
  tells : Tells l.found (InSome (take l.set-index l.sets) IsOn);
}
