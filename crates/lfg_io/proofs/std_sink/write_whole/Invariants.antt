use Rattle.std.proofs.Common.{◌≡◌, ◌-◌, ◌≤◌, [], length, take}
use Rattle.std.specs.Io.KnownBytes.{Appends}
use Rattle.lfg_io.proofs.std_sink.write_whole.Given as goal

-- so many bytes were written, and nothing was written of nothing
abbrev pub invariant-loop-taken : goal.invariant-loop-taken
invariant-loop-taken g l =
    (l.taken ≤ length l.bytes)
    × Appends (g.W.Write.contents l.initial.stream) (g.W.Write.contents l.stream) (take l.taken l.bytes)
    × (l.bytes ≡ [] → l.stream ≡ l.initial.stream)

abbrev pub decreases-loop-taken : goal.decreases-loop-taken
decreases-loop-taken g l = length l.bytes - l.taken
