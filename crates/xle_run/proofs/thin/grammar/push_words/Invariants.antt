use Rattle.std.proofs.Common.{◌≡◌, ◌++◌, map, take}
use Rattle.xle_run.specs.Drafts.{entry_view}
use Rattle.xle_run.proofs.thin.grammar.push_words.Given as goal

abbrev pub invariant-loop-entry : goal.invariant-loop-entry
invariant-loop-entry l = l.cats.items ≡ l.fn.cats.items ++ map (λ x. x.cat) (map entry_view (take l.entry-index l.entries))
