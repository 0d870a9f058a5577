use Rattle.std.proofs.Common.{◌≡◌, ◌+◌, length, take, drop}
use Rattle.std.specs.Io.KnownBytes.{Consumes}
use Rattle.lfg_io.proofs.disk_shelf.append_from.Given as goal

-- what was there stands in front, and behind it the bytes that the reader gave, as many as are no longer left
abbrev pub invariant-loop-left : goal.invariant-loop-left
invariant-loop-left g l =
    (l.start ≡ length l.initial.into.items)
    × (take l.start l.into.items ≡ l.initial.into.items)
    × (length l.into.items + l.left ≡ l.start + l.limit)
    × Consumes (g.R.Read.remaining l.initial.reader) (g.R.Read.remaining l.reader) (drop l.start l.into.items)

abbrev pub decreases-loop-left : goal.decreases-loop-left
decreases-loop-left g l = l.left
