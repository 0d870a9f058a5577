use Rattle.lfg_terms.specs.Order.{fact_cmp}
use Rattle.lfg_terms.specs.OrderLaws.{fact_cmp_total}
use Rattle.lfg_terms.proofs.Ties.{fact_ties}
use Rattle.lfg_chart.proofs.Searching.{place_found, place_missing}
use Rattle.lfg_instant.proofs.ways.fact_position.Goals as goal

pub returns-clause-found : goal.returns-clause-found
returns-clause-found c = rw c.ok.ensures.value (place_found fact_cmp fact_cmp_total fact_ties c.args.facts.now c.args.fact.now c.binary_search.result c.binary_search.ensures.bound c.binary_search.ensures.position)

pub returns-clause-absent : goal.returns-clause-absent
returns-clause-absent c = rw c.ok.ensures.value (place_missing fact_cmp fact_cmp_total fact_ties c.args.facts.now c.args.fact.now c.binary_search.result c.binary_search.ensures.position)
