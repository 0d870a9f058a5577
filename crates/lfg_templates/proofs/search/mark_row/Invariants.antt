use Rattle.std.proofs.Common.{length, take}
use Rattle.lfg_templates.specs.Graphs.{Tied, Reached}
use Rattle.lfg_templates.proofs.search.mark_row.Given as goal

-- the places so far are marked and reached
abbrev pub invariant-loop-place : goal.invariant-loop-place
invariant-loop-place l = record {
  tied : Tied (length l.initial.marks.items) l.marks.items l.reached.items;
  reached : Reached (length l.initial.marks.items) (take l.place-index l.row) l.initial.reached.items l.reached.items;
}
