use Rattle.lfg_parse.proofs.Closures.{fact_store}
use Rattle.lfg_parse.proofs.judging.facts_within.Goals as goal

pub returns-clause-facts : goal.returns-clause-facts
returns-clause-facts c literals is = fact_store literals c.in_ok-facts.facts.items c.in_ok-store.store c.args.good.now is c.in_ok-facts.ensures.facts c.in_ok-store.ensures.facts
