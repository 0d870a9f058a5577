use Rattle.std.proofs.Common.{◌≡◌, length}
use Rattle.lfg_model.specs.Templates.{name_by}
use Rattle.lfg_templates.proofs.bound.name_by.Given as goal

abbrev pub invariant-loop-params : goal.invariant-loop-params
invariant-loop-params l = name_by l.params l.args l.name ≡ name_by l.fn.params l.fn.args l.name

abbrev pub decreases-loop-params : goal.decreases-loop-params
decreases-loop-params l = length l.params
