use Rattle.std.proofs.Common.{◌≡◌, length}
use Rattle.lfg_context.specs.Sets.{IsGrown, HasSamePicks}
use Rattle.lfg_unify.specs.Rows.{AreRows}
use Rattle.lfg_unify.specs.Systems.{IsGrowth}
use Rattle.lfg_unify.proofs.classes.merge_linked.Given as goal

abbrev pub invariant-loop-first : goal.invariant-loop-first
invariant-loop-first l = record {
  grown : IsGrown l.fn.contexts l.contexts;
  picks : HasSamePicks l.fn.contexts l.contexts;
  len : length l.table ≡ length l.fn.table;
  rows : AreRows l.contexts l.table;
  growth : IsGrowth l.arcs l.fn.table l.table;
}
