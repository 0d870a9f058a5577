use Rattle.std.proofs.Common.{◌≡◌, ap, sym, ◌∙◌}
use Rattle.lfg_model.specs.Charts.{points_of}
use Rattle.lfg_chart.specs.Chart.{ChartForm}
use Rattle.lfg_chart.proofs.ForkLaws.{forks_points}
use Rattle.lfg_chart.proofs.layout.Chart.points.Goals as goal

pub returns : goal.returns
returns c =
    let e : points_of c.args.self.now.forks ≡ c.self.inside.points.items = ap (λ (f : ChartForm). points_of f.forks) (sym c.self.view_is) ∙ forks_points c.self.inside.points.items c.self.inside.nexts.items c.self.invariant.beside in
    c.deref.ensures.value ∙ sym e
