use Rattle.std.proofs.Common.{◌≡◌, ◌+◌, ◌*◌, suc, map, take}
use Rattle.lfg_terms.specs.declared.grammar.Schema.{size-Schema}
use Rattle.lfg_terms.specs.declared.path_expr.PathExpr.{PathExpr}
use Rattle.lfg_model.specs.RightSides.{draft_schema_of, draft_annotation_of}
use Rattle.lfg_model.specs.DraftForms.{template_form}
use Rattle.lfg_templates.specs.Counts.{one_count, all_count, call_count, capped, summed}
use Rattle.lfg_templates.specs.Depth.{deepest, heaviest}
use Rattle.lfg_templates.proofs.count.+count.Given as goal

abbrev pub decreases-count_all : goal.decreases-count_all
decreases-count_all l = l.depth * heaviest l.templates.now + (2 * deepest l.schemata.now + 1)

abbrev pub decreases-count_one : goal.decreases-count_one
decreases-count_one l = l.depth * heaviest l.templates.now + 2 * size-Schema PathExpr l.schema.now

abbrev pub invariant-count_all-loop-schema : goal.invariant-count_all-loop-schema
invariant-count_all-loop-schema l = l.sum ≡ capped (summed (λ s. one_count (call_count (map template_form l.templates) l.depth) (draft_schema_of s)) (take l.schema-index l.schemata))

abbrev pub invariant-count_one-loop-branch : goal.invariant-count_one-loop-branch
invariant-count_one-loop-branch l = l.sum ≡ capped (suc (summed (λ b. all_count (call_count (map template_form l.templates) l.depth) (draft_annotation_of b.items)) (take l.branch-index l.branch-items)))
