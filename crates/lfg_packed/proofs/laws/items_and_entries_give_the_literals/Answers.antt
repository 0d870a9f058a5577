use Rattle.lfg_packed.proofs.SiteLaws.{no_site_twice, literals_by_picks}
use Rattle.lfg_packed.proofs.laws.items_and_entries_give_the_literals.Goals as goal

pub returns-clause-once : goal.returns-clause-once
returns-clause-once c = no_site_twice

pub returns-clause-literals : goal.returns-clause-literals
returns-clause-literals c = literals_by_picks
