use Rattle.std.proofs.Common.{rules}
use Rattle.lfg_names.proofs.Once.{one_place}
use Rattle.lfg_names.proofs.table.Names.text.Goals as goal

pub returns-clause-only : goal.returns-clause-only
returns-clause-only c = λ other e. one_place c.args.self.now c.args.id other c.text.result.now (search rules) (search rules) e
