use Rattle.std.proofs.Common.{◌≡◌, length, take}
use Rattle.lfg_context.specs.Sets.{IsGrown, HasSamePicks}
use Rattle.lfg_unify.specs.Rows.{AreRows}
use Rattle.lfg_unify.specs.Systems.{AddsThere}
use Rattle.lfg_unify.proofs.settle.place_there.Given as goal

abbrev pub invariant-loop-entry : goal.invariant-loop-entry
invariant-loop-entry l = record {
  grown : IsGrown l.fn.contexts l.contexts;
  picks : HasSamePicks l.fn.contexts l.contexts;
  len : length l.table ≡ length l.fn.table;
  rows : AreRows l.contexts l.table;
  adds : AddsThere (take l.entry-index l.there) l.fn.table l.table;
}
