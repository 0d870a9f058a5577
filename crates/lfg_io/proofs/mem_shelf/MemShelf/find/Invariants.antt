use Rattle.std.proofs.Common.{◌≡◌, drop}
use Rattle.std.specs.FinMap as finite
use Rattle.lfg_io.specs.MemShelf.{files_of, told}
use Rattle.lfg_io.proofs.mem_shelf.MemShelf.find.Given as goal

-- the name is not among those so far
abbrev pub invariant-loop-known : goal.invariant-loop-known
invariant-loop-known l =
    finite.get (files_of l.self.files) l.name ≡ finite.get (files_of (told (drop l.known-index l.known-items))) l.name
