use Rattle.lfg_model.proofs.OneReading.{one_row, one_place, not_both}
use Rattle.lfg_model.proofs.SomeReading.{some_reading}
use Rattle.lfg_model.proofs.token.one_reading.Goals as goal

pub returns : goal.returns
returns c = record { some = some_reading; rows = λ cs ts us r s. one_row r s; places = λ cs stop other r s. one_place r s; never_both = λ cs ts stop r s. not_both r s }
