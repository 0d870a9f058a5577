use Rattle.std.proofs.Common.{◌≡◌, map, take}
use Rattle.lfg_model.specs.DraftForms.{template_form}
use Rattle.lfg_model.specs.TemplateRules.{template_head}
use Rattle.lfg_templates.specs.Views.{head_of}
use Rattle.lfg_templates.proofs.heads.template_heads.Given as goal

abbrev pub invariant-loop-template : goal.invariant-loop-template
invariant-loop-template l = map head_of l.out.items ≡ map template_head (map template_form (take l.template-index l.templates))
