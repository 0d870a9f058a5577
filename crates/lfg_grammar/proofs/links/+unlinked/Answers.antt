use Rattle.std.proofs.Common.{ap, sym, ◌∙◌, arith}
use Rattle.std.proofs.lemmas.List.{at_drop_all}
use Rattle.lfg_model.specs.Terms.{annotation_of, branches_from}
use Rattle.lfg_model.proofs.SchemaViews.{either_schema}
use Rattle.lfg_grammar.specs.Unlinked.{can_be_unlinked, branch_can_be_unlinked, schema_can_be_unlinked}
use Rattle.lfg_grammar.proofs.Unlinkable.{branch_there}
use Rattle.lfg_grammar.proofs.links.+unlinked.Goals as goal

pub schema_can_be_unlinked-returns-then-can_be_unlinked :
    goal.schema_can_be_unlinked-returns-then-can_be_unlinked
schema_can_be_unlinked-returns-then-can_be_unlinked t c =
    let branches = c.deref-branch-items.result.now in
    let can = ap (λ xs. can_be_unlinked (annotation_of xs)) (sym c.deref.ensures.value) ∙ sym c.can_be_unlinked.ensures ∙ c.if-can_be_unlinked.true in
    sym (ap schema_can_be_unlinked (either_schema c.args.schema.now c.in-Either.branches branches c.in-Either.is c.deref-branch-items.ensures.value)
    ∙ sym c.loop-branch.invariant
    ∙ branch_there branches c.loop-branch.branch-index c.branch-item.result c.loop-branch-test.true c.branch-item.is can)

pub schema_can_be_unlinked-returns-after-loop-branch :
    goal.schema_can_be_unlinked-returns-after-loop-branch
schema_can_be_unlinked-returns-after-loop-branch t c =
    let branches = c.deref-branch-items.result.now in
    sym (ap schema_can_be_unlinked (either_schema c.args.schema.now c.in-Either.branches branches c.in-Either.is c.deref-branch-items.ensures.value)
    ∙ sym c.loop-branch.invariant
    ∙ at_drop_all (λ bs. branch_can_be_unlinked (branches_from bs)) branches c.loop-branch.branch-index (omega arith))
