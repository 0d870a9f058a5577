use Rattle.std.proofs.Common.{◌≡◌, ℕ, false, List, [], ◌∷◌, length, take}
use Rattle.lfg_model.specs.Lists.{In}
use Rattle.lfg_context.specs.Sets.{IsGrown, HasSamePicks}
use Rattle.lfg_unify.specs.Rows.{AreRows, Has}
use Rattle.lfg_context.specs.Sets.{Assignment}
use Rattle.lfg_unify.specs.Systems.{IsGrowth, AreLinked}
use Rattle.lfg_unify.proofs.rounds.link_from.Given as goal

abbrev pub invariant-loop-second : goal.invariant-loop-second
invariant-loop-second l = record {
  grown : IsGrown l.fn.contexts l.contexts;
  picks : HasSamePicks l.fn.contexts l.contexts;
  len : length l.table ≡ length l.fn.table;
  rows : AreRows l.contexts l.table;
  keeps : (a : Assignment) (i j : ℕ) → Has l.fn.table a i j → Has l.table a i j;
  growth : In l.first l.arcs → IsGrowth l.arcs l.fn.table l.table;
  linked : AreLinked (l.first ∷ []) (take l.second-index l.arcs) l.fn.table l.table;
  kept : l.changed ≡ false → l.table ≡ l.fn.table;
}
