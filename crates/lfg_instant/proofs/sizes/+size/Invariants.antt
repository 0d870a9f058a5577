use Rattle.std.proofs.Common.{◌≡◌, ◌+◌, ◌-◌, ◌^◌, ◌<◌, min, drop}
use Rattle.lfg_packed.specs.Sizes.{literal_size, branches_size}
use Rattle.lfg_model.specs.Terms.{annotation_of}
use Rattle.lfg_model.specs.Terms.{branches_from}
use Rattle.lfg_instant.proofs.sizes.+size.Given as goal

abbrev pub invariant-literal_count-loop-schema : goal.invariant-literal_count-loop-schema
invariant-literal_count-loop-schema l =
    record { same : min (l.count + literal_size (annotation_of (drop l.schema-index l.schemata))) (2 ^ 64 - 1) ≡ min (literal_size (annotation_of l.schemata)) (2 ^ 64 - 1); within : l.count < 2 ^ 64 }

abbrev pub invariant-schema_count-loop-branch : goal.invariant-schema_count-loop-branch
invariant-schema_count-loop-branch l =
    record { same : min (l.count + branches_size (branches_from (drop l.branch-index l.branch-items))) (2 ^ 64 - 1) ≡ min (branches_size (branches_from l.branch-items)) (2 ^ 64 - 1); within : l.count < 2 ^ 64 }
