use Rattle.std.proofs.Common.{◌≡◌, ◌++◌, map, take}
use Rattle.std.specs.List.{flat_map}
use Rattle.lfg_model.specs.Loads.{annotation_paths, path_at, schema_paths}
use Rattle.lfg_model.specs.RightSides.{draft_schema_of, draft_annotation_of}
use Rattle.lfg_grammar.specs.BadPaths.{written_at}
use Rattle.lfg_grammar.proofs.bad_paths.+paths.Given as goal

abbrev pub invariant-push_paths-loop-schema : goal.invariant-push_paths-loop-schema
invariant-push_paths-loop-schema l = map written_at l.out.items ≡ map written_at l.initial.out.items ++ flat_map (λ s. map (path_at l.entry) (schema_paths (draft_schema_of s))) (take l.schema-index l.schemata)

abbrev pub invariant-push_schema_paths-loop-branch : goal.invariant-push_schema_paths-loop-branch
invariant-push_schema_paths-loop-branch l = map written_at l.out.items ≡ map written_at l.initial.out.items ++ flat_map (λ b. map (path_at l.entry) (annotation_paths (draft_annotation_of b.items))) (take l.branch-index l.branch-items)
