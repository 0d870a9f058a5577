use Rattle.std.proofs.Common.{map, take}
use Rattle.lfg_grammar.specs.BadPaths.{FoundBadPath, written_at}
use Rattle.lfg_grammar.proofs.bad_paths.first_bad_path.Given as goal

abbrev pub invariant-loop-written : goal.invariant-loop-written
invariant-loop-written l = FoundBadPath l.depth (map written_at (take l.written-index l.written-items)) l.first
