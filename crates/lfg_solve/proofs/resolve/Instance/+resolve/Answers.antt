use Rattle.std.proofs.Common.{◌+◌, ◌-◌, ◌^◌, List, min, length, drop, ap, ◌∙◌, sym, arith, rules}
use Rattle.std.specs.declared.vec.Vec.{Vec}
use Rattle.std.specs.Global.{Global}
use Rattle.std.proofs.lemmas.List.{at_drop_more, at_drop_all}
use Rattle.std.proofs.lemmas.Result.{on_ok_weaker}
use Rattle.lfg_terms.specs.declared.grammar.Schema as declared
use Rattle.lfg_model.specs.Places.{places}
use Rattle.lfg_model.specs.Terms.{Paths, annotation_of, schema_of, or_branch}
use Rattle.lfg_model.specs.Terms.{branches_from}
use Rattle.lfg_solve.specs.Views.{instance_of}
use Rattle.lfg_model.proofs.SchemaViews.{either_schema, maybe_schema}
use Rattle.lfg_solve.proofs.ResolveLaws.{option_taken, branch_taken, branches_past}
use Rattle.lfg_solve.proofs.resolve.Instance.+resolve.Goals as goal

pub push_schema-returns-then-before-eq0 : goal.push_schema-returns-then-before-eq0
push_schema-returns-then-before-eq0 t c =
    let branches = c.deref-branch-items.result.now in
    let is_either = either_schema c.args.schema.now c.in-Either.branches branches c.in-Either.is c.deref-branch-items.ensures.value in
    let split = rw c.in-Some.is at c.first_pick.ensures in
    let left = at_drop_more branches_from branches c.loop-branch.branch-index c.branch-item.result (omega arith) in
    let rest = branches_from (drop (c.loop-branch.branch-index + 1) branches) in
    let first = ap (λ (v : Vec (declared.Schema Paths) Global). or_branch (annotation_of v.items) rest) (sym c.branch-item.is) in
    let held = ap (λ (xs : List (declared.Schema Paths)). or_branch (annotation_of xs) rest) (sym c.deref-then-before-eq0.ensures.value) in
    let twice = c.deref.ensures.value ∙ sym c.deref-then-before-eq0.ensures.value in
    let count = c.places.ensures ∙ ap (λ (xs : List (declared.Schema Paths)). min (length (places (annotation_of xs))) (2 ^ 64 - 1)) twice in
    on_ok_weaker c.push_resolved.result
    (branch_taken (instance_of c.args.self.now) (schema_of c.args.schema.now) (branches_from branches) c.in-Some.taken c.args.picks.now c.in-Some.others.now c.args.index c.args.literals.now.items
    _ (annotation_of c.deref-then-before-eq0.result.now) _ c.loop-branch.before c.loop-branch.rest.now _ c.loop-branch.next c.loop-branch.literals.items c.push_resolved.new.literals.items
    is_either split c.loop-branch.invariant (left ∙ first ∙ held) c.if-before-eq0.true
    (c.cut.ensures.own (length (places (annotation_of c.deref-then-before-eq0.result.now))) count))
    c.push_resolved.ensures

pub push_schema-returns-after-loop-branch : goal.push_schema-returns-after-loop-branch
push_schema-returns-after-loop-branch t c =
    let branches = c.deref-branch-items.result.now in
    let is_either = either_schema c.args.schema.now c.in-Either.branches branches c.in-Either.is c.deref-branch-items.ensures.value in
    let split = rw c.in-Some.is at c.first_pick.ensures in
    branches_past (instance_of c.args.self.now) (schema_of c.args.schema.now) (branches_from branches) c.in-Some.taken c.args.picks.now c.in-Some.others.now c.args.index c.args.literals.now.items
    _ c.loop-branch.before c.loop-branch.rest.now c.loop-branch.next c.loop-branch.literals.items is_either split c.loop-branch.invariant (at_drop_all branches_from branches c.loop-branch.branch-index (omega arith))

pub push_schema-returns-else-taken-ne0 : goal.push_schema-returns-else-taken-ne0
push_schema-returns-else-taken-ne0 t c =
    let is_maybe = maybe_schema c.args.schema.now c.in-Maybe.inside c.deref-in-Maybe.result.now c.in-Maybe.is c.deref-in-Maybe.ensures.value in
    let split = rw c.in-Some-first_pick.is at c.first_pick-in-Maybe.ensures in
    on_ok_weaker c.push_resolved-in-Maybe.result
    (option_taken (instance_of c.args.self.now) (schema_of c.args.schema.now) (annotation_of c.deref-in-Maybe.result.now) c.args.picks.now c.in-Some-first_pick.others.now c.in-Some-first_pick.taken c.args.index
    c.args.literals.now.items c.push_resolved-in-Maybe.new.literals.items is_maybe split (search rules))
    c.push_resolved-in-Maybe.ensures
