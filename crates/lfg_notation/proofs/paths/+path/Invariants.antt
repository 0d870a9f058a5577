use Rattle.std.proofs.Common.{◌≡◌, length, ◌≤◌, map, ◌+◌, ◌*◌}
use Rattle.lfg_model.specs.Nests.{readers}
use Rattle.lfg_model.specs.PathExpressions.{expression_of}
use Rattle.lfg_model.specs.PathNotation.{paths}
use Rattle.lfg_model.proofs.NestTurns.{in_front}
use Rattle.lfg_notation.proofs.paths.+path.Given as goal

abbrev pub decreases-branches_at : goal.decreases-branches_at
decreases-branches_at l = 3 * length l.lexemes.now + 2

abbrev pub decreases-part_at : goal.decreases-part_at
decreases-part_at l = 3 * length l.lexemes.now

abbrev pub decreases-path_at : goal.decreases-path_at
decreases-path_at l = 3 * length l.lexemes.now + 1

abbrev pub invariant-branches_at-loop-branches : goal.invariant-branches_at-loop-branches
invariant-branches_at-loop-branches l = record {
  shorter : length l.rest ≤ length l.lexemes;
  read : in_front (map expression_of l.branches.items) ((readers paths).branches l.rest) ≡ (readers paths).branches l.lexemes;
}

abbrev pub decreases-branches_at-loop-branches : goal.decreases-branches_at-loop-branches
decreases-branches_at-loop-branches l = length l.rest

abbrev pub invariant-path_at-loop-parts : goal.invariant-path_at-loop-parts
invariant-path_at-loop-parts l = record {
  shorter : length l.rest ≤ length l.lexemes;
  read : in_front (map expression_of l.parts.items) ((readers paths).row l.rest) ≡ (readers paths).row l.lexemes;
}

abbrev pub decreases-path_at-loop-parts : goal.decreases-path_at-loop-parts
decreases-path_at-loop-parts l = length l.rest
