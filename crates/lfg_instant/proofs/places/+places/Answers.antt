use Rattle.std.proofs.Common.{ap, length, arith}
use Rattle.lfg_model.specs.Places.{schema_places, branch_places}
use Rattle.lfg_model.specs.Terms.{branches_from}
use Rattle.lfg_model.proofs.SchemaViews.{either_schema, maybe_schema}
use Rattle.std.proofs.lemmas.List.{at_drop_all}
use Rattle.lfg_instant.proofs.places.+places.Goals as goal

pub schema_places-returns-after-loop-branch : goal.schema_places-returns-after-loop-branch
schema_places-returns-after-loop-branch t c =
    let branches = c.deref-branch-items.result.now in
    let same = ap (λ s. length (schema_places s)) (either_schema c.args.schema.now c.in-Either.branches branches c.in-Either.is c.deref-branch-items.ensures.value) in
    let done = at_drop_all (λ bs. length (branch_places (branches_from bs))) branches c.loop-branch.branch-index (omega arith) in
    omega (arith, same, done, c.loop-branch.invariant.same)

pub schema_places-returns-in-Maybe : goal.schema_places-returns-in-Maybe
schema_places-returns-in-Maybe t c =
    let same = ap (λ s. length (schema_places s)) (maybe_schema c.args.schema.now c.in-Maybe.inside c.deref-in-Maybe.result.now c.in-Maybe.is c.deref-in-Maybe.ensures.value) in
    omega (arith, same, c.places-in-Maybe.ensures, c.saturating_add.ensures)
