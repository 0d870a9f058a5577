use Rattle.lfg_terms.specs.Order.{node_cmp}
use Rattle.lfg_terms.specs.OrderLaws.{node_cmp_total}
use Rattle.lfg_terms.proofs.Ties.{node_ties}
use Rattle.lfg_solve.proofs.Tables.{place_found, place_missing}
use Rattle.lfg_solve.proofs.solution.place_of.Goals as goal

pub returns-clause-found : goal.returns-clause-found
returns-clause-found c = rw c.ok.ensures.value (place_found node_cmp node_cmp_total node_ties c.args.nodes.now c.args.node.now c.binary_search.result c.binary_search.ensures.bound c.binary_search.ensures.position)

pub returns-clause-missing : goal.returns-clause-missing
returns-clause-missing c = rw c.ok.ensures.value (place_missing node_cmp node_cmp_total node_ties c.args.nodes.now c.args.node.now c.binary_search.result c.binary_search.ensures.position)
