use Rattle.std.proofs.Common.{◌≡◌, length, ◌≤◌, map, ◌+◌, ◌*◌}
use Rattle.lfg_model.specs.Nests.{readers}
use Rattle.lfg_model.specs.RightSides.{right_side_of}
use Rattle.lfg_model.specs.RightSideNotation.{terms}
use Rattle.lfg_model.proofs.NestTurns.{in_front}
use Rattle.lfg_notation.proofs.right_sides.+terms.Given as goal

abbrev pub decreases-branches_at : goal.decreases-branches_at
decreases-branches_at l = 3 * length l.lexemes.now + 2

abbrev pub decreases-term_at : goal.decreases-term_at
decreases-term_at l = 3 * length l.lexemes.now

abbrev pub decreases-terms_at : goal.decreases-terms_at
decreases-terms_at l = 3 * length l.lexemes.now + 1

abbrev pub invariant-branches_at-loop-branches : goal.invariant-branches_at-loop-branches
invariant-branches_at-loop-branches l = record {
  shorter : length l.rest ≤ length l.lexemes;
  read : in_front (map right_side_of l.branches.items) ((readers terms).branches l.rest) ≡ (readers terms).branches l.lexemes;
}

abbrev pub decreases-branches_at-loop-branches : goal.decreases-branches_at-loop-branches
decreases-branches_at-loop-branches l = length l.rest

abbrev pub invariant-terms_at-loop-parts : goal.invariant-terms_at-loop-parts
invariant-terms_at-loop-parts l = record {
  shorter : length l.rest ≤ length l.lexemes;
  read : in_front (map right_side_of l.parts.items) ((readers terms).row l.rest) ≡ (readers terms).row l.lexemes;
}

abbrev pub decreases-terms_at-loop-parts : goal.decreases-terms_at-loop-parts
decreases-terms_at-loop-parts l = length l.rest
