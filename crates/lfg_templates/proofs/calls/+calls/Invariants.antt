use Rattle.std.proofs.Common.{◌≡◌, ◌++◌, map, take}
use Rattle.std.specs.List.{flat_map}
use Rattle.lfg_model.specs.RightSides.{draft_schema_of, draft_annotation_of}
use Rattle.lfg_model.specs.TemplateRules.{call_at, schema_calls, calls}
use Rattle.lfg_templates.specs.Views.{called_of}
use Rattle.lfg_templates.proofs.calls.+calls.Given as goal

abbrev pub invariant-push_calls-loop-schema : goal.invariant-push_calls-loop-schema
invariant-push_calls-loop-schema l = map called_of l.out.items ≡ map called_of l.initial.out.items ++ flat_map (λ s. map (call_at l.entry) (schema_calls (draft_schema_of s))) (take l.schema-index l.schemata)

abbrev pub invariant-push_schema_calls-loop-branch : goal.invariant-push_schema_calls-loop-branch
invariant-push_schema_calls-loop-branch l = map called_of l.out.items ≡ map called_of l.initial.out.items ++ flat_map (λ b. map (call_at l.entry) (calls (draft_annotation_of b.items))) (take l.branch-index l.branch-items)
