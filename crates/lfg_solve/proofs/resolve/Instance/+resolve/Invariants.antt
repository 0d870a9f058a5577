use Rattle.std.proofs.Common.{◌≡◌, ◌+◌, ◌^◌, ◌<◌, ◌++◌, drop}
use Rattle.lfg_model.specs.Places.{form_count, branch_forms}
use Rattle.lfg_model.specs.Resolve.{resolved, branch_literals}
use Rattle.lfg_model.specs.Terms.{annotation_of}
use Rattle.lfg_model.specs.Terms.{branches_from}
use Rattle.lfg_solve.specs.Views.{instance_of}
use Rattle.lfg_solve.proofs.resolve.Instance.+resolve.Given as goal

abbrev pub invariant-push_resolved-loop-schema : goal.invariant-push_resolved-loop-schema
invariant-push_resolved-loop-schema l =
    l.fn.index + form_count (annotation_of l.schemata) < 2 ^ 32
    → (l.next + form_count (annotation_of (drop l.schema-index l.schemata)) ≡ l.fn.index + form_count (annotation_of l.schemata))
    × (l.literals.items ++ resolved (instance_of l.self) (annotation_of (drop l.schema-index l.schemata)) l.rest l.next
    ≡ l.initial.literals.items ++ resolved (instance_of l.self) (annotation_of l.schemata) l.fn.picks l.fn.index)

abbrev pub invariant-push_schema-loop-branch : goal.invariant-push_schema-loop-branch
invariant-push_schema-loop-branch l =
    l.initial.next + branch_forms (branches_from l.branch-items) < 2 ^ 32
    → (l.next + branch_forms (branches_from (drop l.branch-index l.branch-items)) ≡ l.initial.next + branch_forms (branches_from l.branch-items))
    × (l.literals.items ++ branch_literals (instance_of l.self) (branches_from (drop l.branch-index l.branch-items)) l.before l.rest l.next
    ≡ l.initial.literals.items ++ branch_literals (instance_of l.self) (branches_from l.branch-items) l.initial.before l.initial.rest l.initial.next)
