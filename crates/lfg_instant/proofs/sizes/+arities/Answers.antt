use Rattle.std.proofs.Common.{ap, ◌∙◌, sym, map, arith}
use Rattle.std.proofs.lemmas.List.{at_drop_all}
use Rattle.std.proofs.lemmas.Result.{on_ok_weaker}
use Rattle.lfg_model.specs.Places.{branch_places}
use Rattle.lfg_model.specs.Terms.{branches_from, schema_of}
use Rattle.lfg_model.proofs.SchemaViews.{either_schema, maybe_schema}
use Rattle.lfg_instant.specs.Sizes.{in_32_bits}
use Rattle.lfg_instant.proofs.BranchLaws.{either_arities, maybe_arities}
use Rattle.lfg_instant.proofs.sizes.+arities.Goals as goal

pub push_schema_arities-returns-after-loop-branch : goal.push_schema_arities-returns-after-loop-branch
push_schema_arities-returns-after-loop-branch t c =
    let branches = c.deref-branch-items.result.now in
    let n = c.in_32_bits.ensures ∙ ap in_32_bits (c.len.ensures ∙ sym c.deref-branch-items.ensures.len) in
    either_arities (schema_of c.args.schema.now) branches c.args.arities.now.items c.push.new.self.items c.loop-branch.arities.items _ c.in_32_bits.result
    (either_schema c.args.schema.now c.in-Either.branches branches c.in-Either.is c.deref-branch-items.ensures.value) n c.in_ok-push-in-Either.ensures.items c.loop-branch.invariant
    (at_drop_all (λ bs. map in_32_bits (branch_places (branches_from bs))) branches c.loop-branch.branch-index (omega arith))

pub push_schema_arities-returns-in_ok-push-in-Maybe : goal.push_schema_arities-returns-in_ok-push-in-Maybe
push_schema_arities-returns-in_ok-push-in-Maybe t c = on_ok_weaker c.push_arities-in-Maybe.result
    (maybe_arities (schema_of c.args.schema.now) _ c.args.arities.now.items c.push-in-Maybe.new.self.items c.push_arities-in-Maybe.new.arities.items
    (maybe_schema c.args.schema.now c.in-Maybe.inside c.deref-in-Maybe.result.now c.in-Maybe.is c.deref-in-Maybe.ensures.value) c.in_ok-push-in-Maybe.ensures.items)
    c.push_arities-in-Maybe.ensures
