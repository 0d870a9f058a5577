use Rattle.lfg_chart.proofs.PlaceLaws.{one_has}
use Rattle.lfg_chart.proofs.places.Places.one.Goals as goal

pub returns : goal.returns
returns c = λ k. one_has c.args.place k c.requires
