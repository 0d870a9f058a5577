use Rattle.std.proofs.Common.{◌≡◌, ◌≤◌, ℕ, List, Some, map, take}
use Rattle.xle_run.specs.Writes.{HasPut, LeavesRoom}
use Rattle.xle_run.proofs.sections.write_sections.Given as goal

-- the sentences so far have their sections, no fault is forgotten, and the room is less by them
abbrev pub invariant-loop-i : goal.invariant-loop-i
invariant-loop-i g l = record {
  faults : g.O.Sink.faults l.initial.out ≤ g.O.Sink.faults l.out;
  put : (before : List ℕ) → g.O.Sink.written l.initial.out ≡ Some before → HasPut l.grammar (take l.i (map (λ s. s.now) l.sentences)) before (g.O.Sink.written l.out);
  room : LeavesRoom l.grammar (take l.i (map (λ s. s.now) l.sentences)) (g.O.Sink.room l.initial.out) (g.O.Sink.room l.out);
}
