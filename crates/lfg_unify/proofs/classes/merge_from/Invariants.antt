use Rattle.std.proofs.Common.{◌≡◌, length}
use Rattle.lfg_model.specs.Lists.{In}
use Rattle.lfg_context.specs.Sets.{IsGrown, HasSamePicks}
use Rattle.lfg_unify.specs.Rows.{AreRows}
use Rattle.lfg_unify.specs.Systems.{IsGrowth}
use Rattle.lfg_unify.proofs.classes.merge_from.Given as goal

abbrev pub invariant-loop-second : goal.invariant-loop-second
invariant-loop-second l = record {
  grown : IsGrown l.fn.contexts l.contexts;
  picks : HasSamePicks l.fn.contexts l.contexts;
  len : length l.table ≡ length l.fn.table;
  rows : AreRows l.contexts l.table;
  growth : In l.first l.arcs → IsGrowth l.arcs l.fn.table l.table;
}
