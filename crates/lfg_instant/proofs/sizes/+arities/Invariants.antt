use Rattle.std.proofs.Common.{◌≡◌, ◌++◌, map, drop}
use Rattle.lfg_model.specs.Places.{places, branch_places}
use Rattle.lfg_model.specs.Terms.{annotation_of, branches_from}
use Rattle.lfg_instant.specs.Sizes.{in_32_bits}
use Rattle.lfg_instant.proofs.sizes.+arities.Given as goal

abbrev pub invariant-push_arities-loop-schema : goal.invariant-push_arities-loop-schema
invariant-push_arities-loop-schema l =
    l.arities.items ++ map in_32_bits (places (annotation_of (drop l.schema-index l.schemata))) ≡ l.initial.arities.items ++ map in_32_bits (places (annotation_of l.schemata))

abbrev pub invariant-push_schema_arities-loop-branch : goal.invariant-push_schema_arities-loop-branch
invariant-push_schema_arities-loop-branch l =
    l.arities.items ++ map in_32_bits (branch_places (branches_from (drop l.branch-index l.branch-items))) ≡ l.initial.arities.items ++ map in_32_bits (branch_places (branches_from l.branch-items))
