use Rattle.std.proofs.Common.{◌≡◌, ◌≤◌, ◌++◌, length}
use Rattle.lfg_model.specs.ThinText.{names_at}
use Rattle.xle_run.specs.Drafts.{named}
use Rattle.xle_run.proofs.thin.lexicon.names_at.Given as goal

abbrev pub invariant-loop-rest : goal.invariant-loop-rest
invariant-loop-rest l = record {
  read : named (l.names.items ++ (names_at l.rest).0) (names_at l.rest).1 ≡ names_at l.lexemes;
  shorter : length l.rest ≤ length l.lexemes;
}

abbrev pub decreases-loop-rest : goal.decreases-loop-rest
decreases-loop-rest l = length l.rest
