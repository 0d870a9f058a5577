use Rattle.std.proofs.Common.{take}
use Rattle.lfg_context.specs.Sets.{AreMade, IsGrown, HasSamePicks}
use Rattle.lfg_parse.specs.Judging.{Restricts}
use Rattle.lfg_parse.proofs.stores.restricted.Given as goal

abbrev pub invariant-loop-fact : goal.invariant-loop-fact
invariant-loop-fact l = record {
  grown : IsGrown l.fn.contexts l.contexts;
  picks : HasSamePicks l.fn.contexts l.contexts;
  made : AreMade l.contexts (λ e. e.1) l.kept.items;
  restricts : Restricts (take l.fact-index l.facts) l.set l.kept.items;
}
