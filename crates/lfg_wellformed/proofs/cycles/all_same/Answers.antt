use Rattle.std.proofs.Common.{◌≡◌, ◌<◌, ◌≤◌, ℕ, List, [], length, get_or, slice_set, take, subst, sym, refl, ◌∙◌, ap, arith}
use Rattle.lfg_context.proofs.Growing.{grown_refl, grown_trans, same_picks_refl, same_picks_trans, made_grown, are_made_grown, made_at, set_made_at}
use Rattle.lfg_wellformed.proofs.cycles.all_same.Goals as goal

pub same-requires-clause-a_made : goal.same-requires-clause-a_made
same-requires-clause-a_made c = set_made_at c.loop-place.place c.index-first-place.result c.requires.first (omega arith) c.index-first-place.is

pub same-requires-clause-b_made : goal.same-requires-clause-b_made
same-requires-clause-b_made c = set_made_at c.loop-place.place c.index-second-place.result c.requires.second (omega (arith, c.requires.len)) c.index-second-place.is
