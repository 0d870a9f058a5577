use Rattle.std.proofs.Common.{◌≡◌, drop}
use Rattle.lfg_model.specs.Settings.{words_set}
use Rattle.lfg_grammar.proofs.settings.words_set.Given as goal

abbrev pub invariant-loop-setting : goal.invariant-loop-setting
invariant-loop-setting l = words_set l.key (drop l.setting-index l.settings) ≡ words_set l.key l.settings
