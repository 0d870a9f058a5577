use Rattle.std.proofs.Common.{◌≡◌, ℕ, length, map, take}
use Rattle.std.specs.List.{flat_map}
use Rattle.lfg_context.specs.Sets.{IsGrown, HasSamePicks}
use Rattle.lfg_unify.specs.Closures.{Ascends, place_in}
use Rattle.lfg_unify.specs.Rows.{IsRow}
use Rattle.lfg_unify.specs.Marks.{arc_in, AreArcs, given_in, IsMarked, Marks, members_in, values_in}
use Rattle.lfg_unify.proofs.collect.places_of_members.Given as goal

abbrev pub invariant-loop-member : goal.invariant-loop-member
invariant-loop-member l = l.places.items ≡ map (λ m. (place_in l.nodes m.0, place_in l.nodes m.1)) (take l.member-index l.members)
