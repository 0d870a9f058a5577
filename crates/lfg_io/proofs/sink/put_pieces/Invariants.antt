use Rattle.std.proofs.Common.{◌≡◌, ◌≤◌, ◌+◌, take, length}
use Rattle.std.specs.List.{flat_map}
use Rattle.lfg_io.specs.Sink.{Appends}
use Rattle.lfg_io.proofs.sink.put_pieces.Given as goal

-- the pieces so far were appended, no fault came back, and the room fell by their bytes
abbrev pub invariant-loop-piece : goal.invariant-loop-piece
invariant-loop-piece g l =
    let bytes = flat_map (λ piece. piece.now) (take l.piece-index l.pieces) in
    Appends (g.O.Sink.written l.initial.out) (g.O.Sink.written l.out) bytes
    × (g.O.Sink.faults l.initial.out ≤ g.O.Sink.faults l.out)
    × (length bytes ≤ g.O.Sink.room l.initial.out → g.O.Sink.room l.out + length bytes ≡ g.O.Sink.room l.initial.out)
