use Rattle.std.proofs.Common.{◌≡◌, ℕ, false, List, length, take}
use Rattle.lfg_context.specs.Sets.{IsGrown, HasSamePicks}
use Rattle.lfg_unify.specs.Rows.{AreRows}
use Rattle.lfg_unify.specs.Systems.{IsGrowth, AreLinked}
use Rattle.lfg_unify.proofs.rounds.link_all.Given as goal

abbrev pub invariant-loop-first : goal.invariant-loop-first
invariant-loop-first l = record {
  grown : IsGrown l.fn.contexts l.contexts;
  picks : HasSamePicks l.fn.contexts l.contexts;
  len : length l.table ≡ length l.fn.table;
  rows : AreRows l.contexts l.table;
  growth : IsGrowth l.arcs l.fn.table l.table;
  linked : AreLinked (take l.first-index l.arcs) l.arcs l.fn.table l.table;
  kept : l.changed ≡ false → l.table ≡ l.fn.table;
}
