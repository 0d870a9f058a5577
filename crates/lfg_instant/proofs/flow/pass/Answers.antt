use Rattle.std.proofs.Common.{◌∙◌, ap, ◌||◌}
use Rattle.lfg_context.specs.Sets.{member}
use Rattle.lfg_instant.proofs.FlowTables.{step_set}
use Rattle.lfg_instant.proofs.flow.pass.Goals as goal

pub returns-clause-step : goal.returns-clause-step
returns-clause-step c = λ a.
    step_set c.args.table.now.items c.args.picks.now c.args.passage.now c.index-2.result.now c.index-picks-passage.result c.index-3.result.now c.in_ok-wider.wider a c.requires.within
    c.index-2.ensures c.index-picks-passage.is c.index-3.ensures
    (c.in_ok-wider.ensures.ok.members a ∙ ap (λ b. member c.index-3.result.now a || b) (c.in_ok-more.ensures.ok.members a))
