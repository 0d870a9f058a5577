use Rattle.std.proofs.Common.{take}
use Rattle.lfg_model.specs.TemplateRules.{Twice}
use Rattle.lfg_templates.proofs.HeadingLaws.{HasNames}
use Rattle.lfg_templates.proofs.heads.is_twice.Given as goal

-- the names so far are different, and they are those of the set
abbrev pub invariant-loop-name : goal.invariant-loop-name
invariant-loop-name l = record {
  once : ¬ Twice (take l.name-index l.names);
  held : HasNames (take l.name-index l.names) l.before;
}
