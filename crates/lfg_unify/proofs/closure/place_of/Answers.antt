use Rattle.lfg_unify.proofs.Places.{search_found, search_missing}
use Rattle.lfg_unify.proofs.closure.place_of.Goals as goal

pub returns-clause-found : goal.returns-clause-found
returns-clause-found c = rw c.ok.ensures.value (search_found c.args.nodes.now c.args.node.now c.binary_search.result c.requires c.binary_search.ensures.bound c.binary_search.ensures.position)

pub returns-clause-missing : goal.returns-clause-missing
returns-clause-missing c = rw c.ok.ensures.value (search_missing c.args.nodes.now c.args.node.now c.binary_search.result c.requires c.binary_search.ensures.position)
