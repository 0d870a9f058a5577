use Rattle.std.proofs.Common.{◌≡◌, ◌++◌, map, take}
use Rattle.std.specs.List.{flat_map}
use Rattle.xle_run.specs.Categories.{phrase_cats}
use Rattle.xle_run.specs.Drafts.{phrase_view}
use Rattle.xle_run.proofs.thin.grammar.push_phrases.Given as goal

abbrev pub invariant-loop-phrase : goal.invariant-loop-phrase
invariant-loop-phrase l = l.cats.items ≡ l.fn.cats.items ++ flat_map phrase_cats (map phrase_view (take l.phrase-index l.phrases))
