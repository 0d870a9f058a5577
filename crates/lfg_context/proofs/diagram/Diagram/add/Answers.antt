use Rattle.std.proofs.Common.{◌∙◌}
use Rattle.lfg_context.proofs.Keys.{insert_new}
use Rattle.lfg_context.proofs.diagram.Diagram.add.Goals as goal

pub returns-clause-added : goal.returns-clause-added
returns-clause-added c = c.in_ok-insert.ensures.entries ∙ insert_new c.args.self.now.nodes.entries c.args.test c.args.ctx c.requires.fresh
