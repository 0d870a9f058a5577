use Rattle.std.proofs.Common.{rules}
use Rattle.lfg_instant.proofs.StringLaws.{string_at-get_or}
use Rattle.lfg_instant.proofs.designators.string_at.Goals as goal

pub returns-in-Some : goal.returns-in-Some
returns-in-Some c = rw string_at-get_or (search rules)

pub returns-in-None : goal.returns-in-None
returns-in-None c = rw string_at-get_or (search rules)
