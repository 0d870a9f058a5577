use Rattle.std.proofs.Common.{refl}
use Rattle.lfg_store.proofs.Placing.{is_widened}
use Rattle.lfg_store.proofs.entries.widen.Goals as goal

pub returns-clause-ok : goal.returns-clause-ok
returns-clause-ok c =
    is_widened c.args.entries.now.items c.args.fact.now c.in_ok-fact.fact c.args.place c.index.result.now c.args.ctx.now c.in_ok-wider.wider _
    c.requires.store c.requires.at c.index.ensures c.in_ok-fact.ensures.cases c.in_ok-wider.ensures.ok.members refl
