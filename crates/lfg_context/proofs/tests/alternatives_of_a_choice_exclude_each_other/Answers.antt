use Rattle.std.proofs.Common.{arith}
use Rattle.lfg_context.proofs.Growing.{picks_kept, no_picks}
use Rattle.lfg_context.proofs.Depending.{over_space, depends_pick, depends_and}
use Rattle.lfg_context.proofs.tests.alternatives_of_a_choice_exclude_each_other.Goals as goal

pub some_member-requires-clause-over : goal.some_member-requires-clause-over
some_member-requires-clause-over g c =
    let len = c.in_ok-space.ensures.len in
    let left = depends_pick _ 1 _ 0 (omega (arith, len)) c.in_ok-left.ensures.ok in
    let right = depends_pick _ 1 _ 1 (omega (arith, len)) c.in_ok-right.ensures.ok in
    over_space c.in_ok-both.ensures.ok.made
    (picks_kept c.and.ensures.picks (c.pick-2.ensures.picks (c.pick.ensures.picks (no_picks c.in_ok-space.space c.new-contexts.ensures))))
    (depends_and left right c.in_ok-both.ensures.ok)
