use Rattle.std.proofs.Common.{◌≡◌, map, take}
use Rattle.lfg_model.specs.Templates.{name_with}
use Rattle.lfg_templates.specs.Views.{binding_of}
use Rattle.lfg_templates.proofs.bound.names_with.Given as goal

abbrev pub invariant-loop-name : goal.invariant-loop-name
invariant-loop-name l = l.out.items ≡ map (name_with (binding_of l.bound)) (take l.name-index l.names)
