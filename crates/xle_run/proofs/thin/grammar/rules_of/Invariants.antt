use Rattle.std.proofs.Common.{◌≡◌, map, take}
use Rattle.lfg_model.specs.Thin.{rule_of_phrase}
use Rattle.xle_run.specs.Drafts.{phrase_view}
use Rattle.xle_run.proofs.thin.grammar.rules_of.Given as goal

abbrev pub invariant-loop-phrase : goal.invariant-loop-phrase
invariant-loop-phrase l = l.rules.items ≡ map rule_of_phrase (map phrase_view (take l.phrase-index l.phrases))
