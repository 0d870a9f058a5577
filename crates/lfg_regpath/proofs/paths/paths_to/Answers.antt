use Rattle.lfg_model.specs.PathExpressions.{expression_of}
use Rattle.lfg_regpath.proofs.Exact.{too_many, no_path, accepted}
use Rattle.lfg_regpath.proofs.paths.paths_to.Goals as goal

pub returns-clause-too_many : goal.returns-clause-too_many
returns-clause-too_many c = too_many (expression_of c.args.path.now) c.args.depth c.listed.result c.listed.ensures.listed c.listed.ensures.few c.listed.ensures.refused

pub returns-clause-no_path : goal.returns-clause-no_path
returns-clause-no_path c = no_path (expression_of c.args.path.now) c.args.depth c.listed.result c.listed.ensures.listed c.listed.ensures.some c.listed.ensures.refused

pub returns-clause-accepted : goal.returns-clause-accepted
returns-clause-accepted c = accepted (expression_of c.args.path.now) c.args.depth c.listed.result c.listed.ensures.refused
