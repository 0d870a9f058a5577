use Rattle.std.proofs.Common.{refl}
use Rattle.xle_run.proofs.LoadLaws.{within_file, within_long}
use Rattle.xle_run.proofs.loads.load_file.Goals as goal

pub returns-in-Ok-load-clause-loaded : goal.returns-in-Ok-load-clause-loaded
returns-in-Ok-load-clause-loaded g c files told =
    within_file 4194305 files c.args.name.now c.new-bytes.result.items (g.F.Shelf.files c.args.shelf.now) c.load.new.into.items c.within_limit.result told c.new-bytes.ensures.items c.in-Ok-load.ensures.loaded refl
    c.within_limit.ensures.same c.within_limit.ensures.short

pub returns-in-Ok-load-clause-long : goal.returns-in-Ok-load-clause-long
returns-in-Ok-load-clause-long g c files told =
    within_long 4194305 files c.args.name.now c.new-bytes.result.items (g.F.Shelf.files c.args.shelf.now) c.load.new.into.items c.within_limit.result told c.new-bytes.ensures.items c.in-Ok-load.ensures.loaded refl
    c.within_limit.ensures.long
