use Rattle.std.proofs.Common.{◌≡◌, None, rules}
use Rattle.lfg_io.specs.MemShelf.{found}
use Rattle.lfg_io.proofs.Found.{sure_is_found}
use Rattle.lfg_io.proofs.mem_shelf.MemShelfShelf.load.Goals as goal

pub returns-clause-sure : goal.returns-clause-sure
returns-clause-sure c h =
    let none : found c.args.self.now c.args.name.now ≡ None = search rules in
    λ failed. sure_is_found c.args.self.now c.args.name.now h none
