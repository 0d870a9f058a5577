use Rattle.std.proofs.Common.{◌≡◌, ◌+◌, ◌-◌, ◌^◌, ◌<◌, min, drop}
use Rattle.lfg_model.specs.Places.{form_count, branch_forms}
use Rattle.lfg_model.specs.Terms.{annotation_of}
use Rattle.lfg_model.specs.Terms.{branches_from}
use Rattle.lfg_instant.proofs.places.+forms.Given as goal

abbrev pub invariant-forms-loop-schema : goal.invariant-forms-loop-schema
invariant-forms-loop-schema l =
    record { same : min (l.count + form_count (annotation_of (drop l.schema-index l.schemata))) (2 ^ 32 - 1) ≡ min (form_count (annotation_of l.schemata)) (2 ^ 32 - 1); within : l.count < 2 ^ 32 }

abbrev pub invariant-schema_forms-loop-branch : goal.invariant-schema_forms-loop-branch
invariant-schema_forms-loop-branch l =
    record { same : min (l.count + branch_forms (branches_from (drop l.branch-index l.branch-items))) (2 ^ 32 - 1) ≡ min (branch_forms (branches_from l.branch-items)) (2 ^ 32 - 1); within : l.count < 2 ^ 32 }
