use Rattle.std.proofs.Common.{◌≡◌, take}
use Rattle.lfg_templates.proofs.plain.copy_settings.Given as goal

abbrev pub invariant-loop-setting : goal.invariant-loop-setting
invariant-loop-setting l = l.out.items ≡ take l.setting-index l.settings
