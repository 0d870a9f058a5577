use Rattle.lfg_regpath.proofs.Places.{place_found, place_missing}
use Rattle.lfg_regpath.proofs.set.place_of.Goals as goal

pub returns-clause-found : goal.returns-clause-found
returns-clause-found c = place_found c.args.paths.now c.args.path.now c.binary_search.result c.binary_search.ensures.bound c.binary_search.ensures.position

pub returns-clause-missing : goal.returns-clause-missing
returns-clause-missing c = place_missing c.args.paths.now c.args.path.now c.binary_search.result c.requires c.binary_search.ensures.bound c.binary_search.ensures.position
