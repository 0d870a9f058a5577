use Rattle.lfg_chart.proofs.PlaceLaws.{none_has}
use Rattle.lfg_chart.proofs.places.Places.none.Goals as goal

pub returns : goal.returns
returns c = λ k. none_has k
