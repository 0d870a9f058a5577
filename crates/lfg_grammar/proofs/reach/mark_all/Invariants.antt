use Rattle.std.proofs.Common.{length, take}
use Rattle.lfg_templates.specs.Graphs.{Tied, Reached}
use Rattle.lfg_grammar.proofs.reach.mark_all.Given as goal

-- the numbers so far are marked and reached
abbrev pub invariant-loop-number : goal.invariant-loop-number
invariant-loop-number l = record {
  tied : Tied (length l.initial.marks.items) l.marks.items l.found.items;
  reached : Reached (length l.initial.marks.items) (take l.number-index l.numbers) l.initial.found.items l.found.items;
}
