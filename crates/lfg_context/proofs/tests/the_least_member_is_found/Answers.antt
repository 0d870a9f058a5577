use Rattle.std.proofs.Common.{arith}
use Rattle.lfg_context.proofs.Growing.{picks_kept, no_picks}
use Rattle.lfg_context.proofs.Depending.{over_space, depends_pick, depends_or, depends_without}
use Rattle.lfg_context.proofs.tests.the_least_member_is_found.Goals as goal

pub some_member-requires-clause-over : goal.some_member-requires-clause-over
some_member-requires-clause-over g c =
    let len = c.in_ok-space.ensures.len in
    let left = depends_pick _ 0 _ 0 (omega (arith, len)) c.in_ok-left.ensures.ok in
    let last = depends_pick _ 1 _ 2 (omega (arith, len)) c.in_ok-last.ensures.ok in
    over_space c.in_ok-either.ensures.ok.made
    (picks_kept c.or.ensures.picks (c.pick-2.ensures.picks (c.pick.ensures.picks (no_picks c.in_ok-space.space c.new-contexts.ensures))))
    (depends_or left last c.in_ok-either.ensures.ok)

pub some_member-requires-2-clause-over : goal.some_member-requires-2-clause-over
some_member-requires-2-clause-over g c =
    let len = c.in_ok-space.ensures.len in
    let left = depends_pick _ 0 _ 0 (omega (arith, len)) c.in_ok-left.ensures.ok in
    let last = depends_pick _ 1 _ 2 (omega (arith, len)) c.in_ok-last.ensures.ok in
    let either = depends_or left last c.in_ok-either.ensures.ok in
    over_space c.in_ok-rest.ensures.ok.made
    (picks_kept c.without.ensures.picks (picks_kept c.or.ensures.picks (c.pick-2.ensures.picks (c.pick.ensures.picks (no_picks c.in_ok-space.space c.new-contexts.ensures)))))
    (depends_without either left c.in_ok-rest.ensures.ok)
