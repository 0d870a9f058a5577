use Rattle.std.proofs.Common.{arith, map}
use Rattle.lfg_model.specs.Loads.{annotation_paths, path_at, schema_paths}
use Rattle.lfg_model.specs.RightSides.{draft_schema_of, draft_annotation_of}
use Rattle.lfg_grammar.specs.BadPaths.{written_at}
use Rattle.lfg_templates.proofs.Gathering.{gathered}
use Rattle.lfg_grammar.proofs.PathGathering.{paths_flat, either_flat}
use Rattle.lfg_grammar.proofs.bad_paths.+paths.Goals as goal

pub push_paths-returns : goal.push_paths-returns
push_paths-returns t c = gathered (λ s. map (path_at c.args.entry) (schema_paths (draft_schema_of s))) c.args.schemata.now c.loop-schema.schema-index (map written_at c.args.out.now.items) (map written_at c.loop-schema.out.items) _ (omega arith) (paths_flat c.args.entry c.args.schemata.now) c.loop-schema.invariant

pub push_schema_paths-returns-after-loop-branch : goal.push_schema_paths-returns-after-loop-branch
push_schema_paths-returns-after-loop-branch t c =
    gathered (λ b. map (path_at c.args.entry) (annotation_paths (draft_annotation_of b.items))) c.deref-branch-items.result.now c.loop-branch.branch-index (map written_at c.args.out.now.items) (map written_at c.loop-branch.out.items) _ (omega arith)
    (either_flat c.args.entry c.args.schema.now c.in-Either.branches c.deref-branch-items.result.now c.in-Either.is c.deref-branch-items.ensures.value) c.loop-branch.invariant
