use Rattle.lfg_packed.specs.ChoicePoints.{key_cmp}
use Rattle.lfg_packed.specs.KeyLaws.{key_cmp_total}
use Rattle.lfg_packed.proofs.KeyTies.{key_ties}
use Rattle.lfg_chart.proofs.Searching.{place_found, place_missing}
use Rattle.lfg_instant.proofs.ways.key_position.Goals as goal

pub returns-clause-found : goal.returns-clause-found
returns-clause-found c = rw c.ok.ensures.value (place_found key_cmp key_cmp_total key_ties c.args.keys.now c.args.key.now c.binary_search.result c.binary_search.ensures.bound c.binary_search.ensures.position)

pub returns-clause-absent : goal.returns-clause-absent
returns-clause-absent c = rw c.ok.ensures.value (place_missing key_cmp key_cmp_total key_ties c.args.keys.now c.args.key.now c.binary_search.result c.binary_search.ensures.position)
