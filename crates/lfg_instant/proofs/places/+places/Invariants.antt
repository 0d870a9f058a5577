use Rattle.std.proofs.Common.{◌≡◌, ◌+◌, ◌-◌, ◌^◌, ◌<◌, min, length, drop}
use Rattle.lfg_model.specs.Places.{places, branch_places}
use Rattle.lfg_model.specs.Terms.{annotation_of}
use Rattle.lfg_model.specs.Terms.{branches_from}
use Rattle.lfg_instant.proofs.places.+places.Given as goal

abbrev pub invariant-places-loop-schema : goal.invariant-places-loop-schema
invariant-places-loop-schema l =
    record { same : min (l.count + length (places (annotation_of (drop l.schema-index l.schemata)))) (2 ^ 64 - 1) ≡ min (length (places (annotation_of l.schemata))) (2 ^ 64 - 1); within : l.count < 2 ^ 64 }

abbrev pub invariant-schema_places-loop-branch : goal.invariant-schema_places-loop-branch
invariant-schema_places-loop-branch l =
    record { same : min (l.count + length (branch_places (branches_from (drop l.branch-index l.branch-items)))) (2 ^ 64 - 1) ≡ min (1 + length (branch_places (branches_from l.branch-items))) (2 ^ 64 - 1); within : l.count < 2 ^ 64 }
