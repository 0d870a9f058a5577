use Rattle.std.proofs.Common.{map, take}
use Rattle.lfg_model.specs.Lists.{In}
use Rattle.lfg_grammar.proofs.settings.came_before.Given as goal

abbrev pub invariant-loop-setting : goal.invariant-loop-setting
invariant-loop-setting l = ¬ In l.key (map (λ s. s.key) (take l.setting-index l.earlier))
