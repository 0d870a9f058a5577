use Rattle.std.proofs.Common.{arith}
use Rattle.std.proofs.lemmas.Nat.{le_or_l, or_lt}
use Rattle.lfg_chart.proofs.PlaceLaws.{or_has}
use Rattle.lfg_chart.proofs.places.Places.join.Goals as goal

pub returns-clause-exact : goal.returns-clause-exact
returns-clause-exact c = λ k. or_has c.args.self.bits c.args.other.bits k

pub returns-clause-grows : goal.returns-clause-grows
returns-clause-grows c = le_or_l c.args.self.bits c.args.other.bits

pub returns-clause-within : goal.returns-clause-within
returns-clause-within c = or_lt 128 c.args.self.bits c.args.other.bits (omega arith) (omega arith)
