use Rattle.lfg_chart.proofs.PlaceLaws.{test_has}
use Rattle.lfg_chart.proofs.places.Places.has.Goals as goal

pub returns : goal.returns
returns c = test_has c.args.self.bits c.args.place
