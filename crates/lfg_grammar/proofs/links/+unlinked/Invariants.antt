use Rattle.std.proofs.Common.{◌≡◌, drop}
use Rattle.lfg_model.specs.Terms.{annotation_of, branches_from}
use Rattle.lfg_grammar.specs.Unlinked.{can_be_unlinked, branch_can_be_unlinked}
use Rattle.lfg_grammar.proofs.links.+unlinked.Given as goal

abbrev pub invariant-can_be_unlinked-loop-schema : goal.invariant-can_be_unlinked-loop-schema
invariant-can_be_unlinked-loop-schema l = can_be_unlinked (annotation_of (drop l.schema-index l.schemata)) ≡ can_be_unlinked (annotation_of l.schemata)

abbrev pub invariant-schema_can_be_unlinked-loop-branch : goal.invariant-schema_can_be_unlinked-loop-branch
invariant-schema_can_be_unlinked-loop-branch l = branch_can_be_unlinked (branches_from (drop l.branch-index l.branch-items)) ≡ branch_can_be_unlinked (branches_from l.branch-items)
