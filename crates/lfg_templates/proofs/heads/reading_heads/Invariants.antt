use Rattle.std.proofs.Common.{◌≡◌, map, take}
use Rattle.lfg_model.specs.DraftForms.{word_form}
use Rattle.lfg_model.specs.TemplateRules.{reading_head}
use Rattle.lfg_templates.specs.Views.{head_of}
use Rattle.lfg_templates.proofs.heads.reading_heads.Given as goal

abbrev pub invariant-loop-entry : goal.invariant-loop-entry
invariant-loop-entry l = map head_of l.out.items ≡ map reading_head (map word_form (take l.entry-index l.entries))
