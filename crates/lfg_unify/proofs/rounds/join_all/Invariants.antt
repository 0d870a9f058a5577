use Rattle.std.proofs.Common.{◌≡◌, ◌≤◌, ℕ, false, List, length}
use Rattle.lfg_context.specs.Sets.{IsGrown, HasSamePicks}
use Rattle.lfg_unify.specs.Rows.{AreRows}
use Rattle.lfg_unify.specs.Systems.{Arc, IsGrowth}
use Rattle.lfg_unify.proofs.SweepLaws.{JoinedBelow}
use Rattle.lfg_unify.proofs.rounds.join_all.Given as goal

abbrev pub invariant-loop-place : goal.invariant-loop-place
invariant-loop-place l = record {
  grown : IsGrown l.fn.contexts l.contexts;
  picks : HasSamePicks l.fn.contexts l.contexts;
  len : length l.table ≡ length l.fn.table;
  rows : AreRows l.contexts l.table;
  place : l.place ≤ length l.fn.table;
  growth : (arcs : List Arc) → IsGrowth arcs l.fn.table l.table;
  joined : JoinedBelow l.place l.fn.table l.table;
  kept : l.changed ≡ false → l.table ≡ l.fn.table;
}
