use Rattle.std.proofs.Common.{◌≡◌, ◌++◌}
use Rattle.lfg_unify.proofs.Prefixes.{on_the_way}
use Rattle.lfg_unify.proofs.nodes.push_prefixes.Given as goal

abbrev pub invariant-loop-length : goal.invariant-loop-length
invariant-loop-length l = l.nodes.items ≡ l.initial.nodes.items ++ on_the_way l.length l.edge l.path
