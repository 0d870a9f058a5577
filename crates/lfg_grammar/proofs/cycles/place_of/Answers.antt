use Rattle.lfg_grammar.proofs.CycleLaws.{place_found, place_missing}
use Rattle.lfg_grammar.proofs.cycles.place_of.Goals as goal

pub returns-in-Ok : goal.returns-in-Ok
returns-in-Ok c = place_found c.args.cats.now c.args.cat.now c.binary_search.result c.in-Ok.place c.in-Ok.is c.binary_search.ensures.bound c.binary_search.ensures.position

pub returns-in-Err : goal.returns-in-Err
returns-in-Err c = absurd (place_missing c.args.cats.now c.args.cat.now c.binary_search.result c.in-Err.place c.in-Err.is c.requires.sorted c.binary_search.ensures.position c.requires.among)
