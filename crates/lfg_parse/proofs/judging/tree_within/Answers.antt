use Rattle.lfg_parse.proofs.Closures.{tree_store}
use Rattle.lfg_parse.proofs.judging.tree_within.Goals as goal

pub returns-clause-facts : goal.returns-clause-facts
returns-clause-facts c = tree_store c.args.tree.now c.in_ok-facts.facts.items c.in_ok-store.store c.args.good.now c.in_ok-facts.ensures.restricts c.in_ok-store.ensures.facts
