use Rattle.std.proofs.Common.{map, take}
use Rattle.std.specs.Option.{option_map}
use Rattle.lfg_model.specs.TemplateRules.{Repeated, headed, head_entry, head_name}
use Rattle.lfg_templates.specs.Headings.{AreHeadings}
use Rattle.lfg_templates.specs.Spots.{Finds}
use Rattle.lfg_templates.specs.Views.{head_of, spot_of}
use Rattle.lfg_templates.proofs.heads.first_repeated.Given as goal

-- the first of the heads so far, and what they say of each name
abbrev pub invariant-loop-head : goal.invariant-loop-head
invariant-loop-head l = record {
  finds : Finds head_entry head_name Repeated (headed (map head_of (take l.head-index l.heads))) (option_map spot_of l.first);
  told : AreHeadings (map head_of (take l.head-index l.heads)) l.headings;
}
