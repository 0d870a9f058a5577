use Rattle.std.proofs.Common.{arith}
use Rattle.lfg_regpath.proofs.SetLaws.{set_added, set_full}
use Rattle.lfg_regpath.proofs.set.add.Goals as goal

pub returns-then-len-ge-LIMIT-clause-full : goal.returns-then-len-ge-LIMIT-clause-full
returns-then-len-ge-LIMIT-clause-full c =
    set_full c.args.path c.args.set.now.items c.in-Err.place c.requires (rw c.deref.ensures.value at c.in-Err.ensures.missing) (omega arith)

pub returns-clause-added : goal.returns-clause-added
returns-clause-added c =
    rw c.in_ok-insert.ensures.items (set_added c.args.path c.args.set.now.items c.in-Err.place (rw c.deref.ensures.value at c.in-Err.ensures.missing) (omega arith))
