use Rattle.std.proofs.Common.{ap, arith}
use Rattle.lfg_packed.specs.Sizes.{schema_size, branches_size}
use Rattle.lfg_model.specs.Terms.{branches_from}
use Rattle.lfg_model.proofs.SchemaViews.{either_schema, maybe_schema}
use Rattle.std.proofs.lemmas.List.{at_drop_all}
use Rattle.lfg_instant.proofs.sizes.+size.Goals as goal

pub schema_count-returns-after-loop-branch : goal.schema_count-returns-after-loop-branch
schema_count-returns-after-loop-branch t c =
    let branches = c.deref-branch-items.result.now in
    let same = ap schema_size (either_schema c.args.schema.now c.in-Either.branches branches c.in-Either.is c.deref-branch-items.ensures.value) in
    let done = at_drop_all (λ bs. branches_size (branches_from bs)) branches c.loop-branch.branch-index (omega arith) in
    omega (arith, same, done, c.loop-branch.invariant.same)

pub schema_count-returns-in-Maybe : goal.schema_count-returns-in-Maybe
schema_count-returns-in-Maybe t c =
    let same = ap schema_size (maybe_schema c.args.schema.now c.in-Maybe.inside c.deref-in-Maybe.result.now c.in-Maybe.is c.deref-in-Maybe.ensures.value) in
    omega (arith, same, c.literal_count-in-Maybe.ensures)
