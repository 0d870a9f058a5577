use Rattle.std.proofs.lemmas.Cmp.{nat_list_cmp_total}
use Rattle.lfg_terms.specs.Order.{name_cmp}
use Rattle.lfg_terms.proofs.Ties.{name_ties}
use Rattle.lfg_chart.proofs.Searching.{found_at, not_there}
use Rattle.lfg_chart.proofs.links.number_of.Goals as goal

pub unreachable-requires : goal.unreachable-requires
unreachable-requires c = not_there name_cmp nat_list_cmp_total name_ties c.args.cats.now c.args.cat.now c.in-Err.field-0 c.requires.ordered c.in-Err.ensures.position c.requires.known

pub returns : goal.returns
returns c = found_at name_cmp nat_list_cmp_total name_ties c.args.cats.now c.args.cat.now c.in-Ok.number c.in-Ok.ensures.bound c.in-Ok.ensures.ok
