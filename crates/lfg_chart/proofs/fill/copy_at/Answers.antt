use Rattle.lfg_chart.specs.Filling.{first, copied}
use Rattle.lfg_chart.proofs.FillLaws.{turn_add, met_add}
use Rattle.lfg_chart.proofs.fill.copy_at.Goals as goal

pub returns-clause-turn : goal.returns-clause-turn
returns-clause-turn c =
    turn_add c.args.rules.now c.args.table.now c.add.new.self c.args.gives c.args.from c.places-places.result c.add.result c.requires.ready
    (λ k l h. copied c.requires.of (first ((c.places-places.ensures k l).0 h))) c.add.ensures

pub returns-clause-met : goal.returns-clause-met
returns-clause-met c = λ e. record {
  each = λ k h. met_add c.args.table.now c.add.new.self c.args.gives c.args.from c.places-places.result c.add.result c.add.ensures e k h.end ((c.places-places.ensures k h.end).1 h);
}
