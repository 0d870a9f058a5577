use Rattle.std.proofs.Common.{◌+◌, ◌*◌, map, take}
use Rattle.lfg_terms.specs.declared.grammar.Schema.{size-Schema}
use Rattle.lfg_terms.specs.declared.path_expr.PathExpr.{PathExpr}
use Rattle.lfg_model.specs.RightSides.{draft_schema_of, draft_annotation_of, draft_branches_from}
use Rattle.lfg_model.specs.DraftForms.{template_form}
use Rattle.lfg_model.specs.Templates.{AllBecome, BranchesBecome}
use Rattle.lfg_templates.specs.Views.{binding_of}
use Rattle.lfg_templates.specs.Depth.{deepest, heaviest}
use Rattle.lfg_templates.proofs.expansion.+expand.Given as goal

abbrev pub decreases-expand_all : goal.decreases-expand_all
decreases-expand_all l = l.depth * heaviest l.templates.now + (2 * deepest l.schemata.now + 1)

abbrev pub decreases-expand_one : goal.decreases-expand_one
decreases-expand_one l = l.depth * heaviest l.templates.now + 2 * size-Schema PathExpr l.schema.now

abbrev pub invariant-expand_all-loop-schema : goal.invariant-expand_all-loop-schema
invariant-expand_all-loop-schema l = AllBecome (map template_form l.templates) (binding_of l.bound) (draft_annotation_of (take l.schema-index l.schemata)) (map draft_schema_of l.out.items)

abbrev pub invariant-expand_one-loop-branch : goal.invariant-expand_one-loop-branch
invariant-expand_one-loop-branch l = BranchesBecome (map template_form l.templates) (binding_of l.bound)
    (draft_branches_from (map (λ b. draft_annotation_of b.items) (take l.branch-index l.branch-items)))
    (map (λ b. draft_annotation_of b.items) l.out.items)
