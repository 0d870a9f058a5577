use Rattle.std.proofs.Common.{◌≡◌, ℕ, length}
use Rattle.lfg_unify.proofs.ClassLaws.{reach_growth, context_has, context_is_made}
use Rattle.lfg_unify.proofs.classes.reach.Goals as goal

pub and-requires-clause-a_made : goal.and-requires-clause-a_made
and-requires-clause-a_made c =
    context_is_made c.args.table.now c.row.result.now c.args.empty.now c.context_at-near.result.now c.args.place c.args.first c.row.ensures.row c.context_at-near.ensures c.requires.empty_made c.requires.rows

pub and-requires-clause-b_made : goal.and-requires-clause-b_made
and-requires-clause-b_made c =
    context_is_made c.args.table.now c.row-2.result.now c.args.empty.now c.context_at-far.result.now c.args.first c.args.second c.row-2.ensures.row c.context_at-far.ensures c.requires.empty_made c.requires.rows

pub returns-clause-growth : goal.returns-clause-growth
returns-clause-growth c = λ arcs.
    reach_growth arcs c.args.table.now c.take_entries.new.table c.args.place c.args.first c.args.second c.context_at-near.result.now c.context_at-far.result.now c.in_ok-both.both c.args.row.now
    c.take_entries.ensures.len c.take_entries.ensures.others c.in_ok-take_entries.ensures.step
    (context_has c.args.table.now c.row.result.now c.args.empty.now c.context_at-near.result.now c.args.place c.args.first c.row.ensures.row c.context_at-near.ensures c.requires.none)
    (context_has c.args.table.now c.row-2.result.now c.args.empty.now c.context_at-far.result.now c.args.first c.args.second c.row-2.ensures.row c.context_at-far.ensures c.requires.none)
    c.in_ok-both.ensures.ok.members c.requires.held
