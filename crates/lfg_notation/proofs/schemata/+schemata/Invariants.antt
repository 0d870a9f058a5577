use Rattle.std.proofs.Common.{◌≡◌, length, ◌≤◌, map, ◌+◌, ◌*◌}
use Rattle.lfg_model.specs.Nests.{readers}
use Rattle.lfg_model.specs.RightSides.{draft_schema_of}
use Rattle.lfg_model.specs.SchemaNotation.{schemata}
use Rattle.lfg_model.proofs.NestTurns.{in_front}
use Rattle.lfg_notation.specs.Views.{branch_of}
use Rattle.lfg_notation.proofs.schemata.+schemata.Given as goal

abbrev pub decreases-alternatives_at : goal.decreases-alternatives_at
decreases-alternatives_at l = 3 * length l.lexemes.now + 2

abbrev pub decreases-bracketed : goal.decreases-bracketed
decreases-bracketed l = 3 * length l.lexemes.now + 2

abbrev pub decreases-schema_at : goal.decreases-schema_at
decreases-schema_at l = 3 * length l.lexemes.now

abbrev pub decreases-annotation_at : goal.decreases-annotation_at
decreases-annotation_at l = 3 * length l.lexemes.now + 1

abbrev pub invariant-alternatives_at-loop-branches : goal.invariant-alternatives_at-loop-branches
invariant-alternatives_at-loop-branches l = record {
  shorter : length l.rest ≤ length l.lexemes;
  read : in_front (map branch_of l.branches.items) ((readers schemata).branches l.rest) ≡ (readers schemata).branches l.lexemes;
}

abbrev pub decreases-alternatives_at-loop-branches : goal.decreases-alternatives_at-loop-branches
decreases-alternatives_at-loop-branches l = length l.rest

abbrev pub invariant-annotation_at-loop-parts : goal.invariant-annotation_at-loop-parts
invariant-annotation_at-loop-parts l = record {
  shorter : length l.rest ≤ length l.lexemes;
  read : in_front (map draft_schema_of l.parts.items) ((readers schemata).row l.rest) ≡ (readers schemata).row l.lexemes;
}

abbrev pub decreases-annotation_at-loop-parts : goal.decreases-annotation_at-loop-parts
decreases-annotation_at-loop-parts l = length l.rest
