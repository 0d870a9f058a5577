use Rattle.std.proofs.Common.{rules}
use Rattle.lfg_model.specs.PathExpressions.{expression_of}
use Rattle.lfg_regpath.proofs.PlainLaws.{plain_listed}
use Rattle.lfg_regpath.proofs.paths.only_string.Goals as goal

pub returns-clause-listed : goal.returns-clause-listed
returns-clause-listed c = plain_listed (expression_of c.args.path.now) c.push.new.self.items c.requires (search rules)
