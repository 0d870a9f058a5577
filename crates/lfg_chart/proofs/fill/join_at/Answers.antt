use Rattle.lfg_chart.specs.Filling.{first, joined}
use Rattle.lfg_chart.proofs.FillLaws.{turn_add, met_add}
use Rattle.lfg_chart.proofs.fill.join_at.Goals as goal

pub returns-clause-turn : goal.returns-clause-turn
returns-clause-turn c =
    turn_add c.args.rules.now c.args.table.now c.add.new.self c.args.gives c.args.from c.joined-places.result c.add.result c.requires.ready
    (λ k l h. (let w = (c.joined-places.ensures k l).0 h in joined c.requires.of (first w.1) (first w.2))) c.add.ensures

pub returns-clause-met : goal.returns-clause-met
returns-clause-met c = λ e. record {
  each = λ mid k h h'. met_add c.args.table.now c.add.new.self c.args.gives c.args.from c.joined-places.result c.add.result c.add.ensures e k h'.end ((c.joined-places.ensures k h'.end).1 (mid, h, h'));
}
