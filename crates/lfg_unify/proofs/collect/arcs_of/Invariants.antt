use Rattle.std.proofs.Common.{◌≡◌, ℕ, length, map, take}
use Rattle.std.specs.List.{flat_map}
use Rattle.lfg_context.specs.Sets.{IsGrown, HasSamePicks}
use Rattle.lfg_unify.specs.Closures.{Ascends, place_in}
use Rattle.lfg_unify.specs.Rows.{IsRow}
use Rattle.lfg_unify.specs.Marks.{arc_in, AreArcs, given_in, IsMarked, Marks, members_in, values_in}
use Rattle.lfg_unify.proofs.collect.arcs_of.Given as goal

abbrev pub invariant-loop-entry : goal.invariant-loop-entry
invariant-loop-entry l = AreArcs l.nodes (take l.entry-index l.row) l.arcs.items
