use Rattle.lfg_chart.proofs.CollectLaws.{number_in}
use Rattle.std.proofs.Common.{Bool, IsTrue, sym, subst}
use Rattle.std.specs.Prelude.{◌↔◌}
use Rattle.lfg_model.specs.Lists.{In}
use Rattle.lfg_chart.proofs.nexts.is_among.Goals as goal

pub returns : goal.returns
returns c = subst (λ (b : Bool). IsTrue b ↔ In c.args.number c.args.numbers.now) (sym c.contains.ensures.value) (number_in c.args.number c.args.numbers.now)
