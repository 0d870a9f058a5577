use Rattle.std.proofs.Common.{◌≡◌, ◌++◌, map, take, drop}
use Rattle.lfg_solve.specs.Links.{relabelled}
use Rattle.lfg_solve.proofs.classes.Classes.relabel.Given as goal

abbrev pub invariant-loop-i : goal.invariant-loop-i
invariant-loop-i l = l.self-inside.labels.items ≡ map (relabelled l.high l.low) (take l.i l.initial.self-inside.labels.items) ++ drop l.i l.initial.self-inside.labels.items
