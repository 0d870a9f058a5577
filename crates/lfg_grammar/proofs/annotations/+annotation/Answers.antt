use Rattle.std.proofs.Common.{rules, arith, ◌≡◌, List, Vec, Global, ap, sym, ◌∙◌, subst, Some}
use Rattle.std.proofs.lemmas.List.{take_all}
use Rattle.std.proofs.lemmas.Result.{err_from_is_err_and}
use Rattle.lfg_terms.specs.declared.grammar.Schema.{Schema}
use Rattle.lfg_terms.specs.declared.grammar.Schema.TheViews.{the_lemmas}
use Rattle.lfg_terms.specs.declared.path_expr.PathExpr.{PathExpr}
use Rattle.lfg_model.specs.Lists.{In}
use Rattle.lfg_model.specs.Loads.{LoadsAnnotation, LoadsBranches, LoadsSchema, nothing, no_more, marked}
use Rattle.lfg_model.specs.RightSides.{DraftSchema, draft_annotation_of, draft_schema_of, draft_des_of, draft_val_of, define, constrain, exists, member, mark}
use Rattle.lfg_model.specs.Terms.{annotation_of, branches_from}
use Rattle.lfg_model.proofs.RightSideViews.{view_define, view_constrain, view_exists, view_member, view_mark}
use Rattle.lfg_grammar.specs.Answers.{SchemaAs}
use Rattle.lfg_grammar.proofs.Loading.{item_in, drafted, schemata_more, branches_more, option_loads, disjunction_loads, item_fails, branch_fails, option_fails, item_without, option_without, branch_without, no_such_call}
use Rattle.lfg_grammar.proofs.annotations.+annotation.Goals as goal

pub load_annotation-loop-schema-init : goal.load_annotation-loop-schema-init
load_annotation-loop-schema-init t c = rw c.new-out.ensures.items nothing

pub load_annotation-load_schema-requires : goal.load_annotation-load_schema-requires
load_annotation-load_schema-requires t c =
    (search (rules, the_lemmas), (c.requires.range, item_without c.args.schemata.now c.schema-item.result (item_in c.args.schemata.now c.loop-schema.schema-index c.schema-item.result c.loop-schema-test.true c.schema-item.is) c.requires.no_call))

pub load_annotation-returns-in_err-load_schema : goal.load_annotation-returns-in_err-load_schema
load_annotation-returns-in_err-load_schema t c =
    let p = err_from_is_err_and c.from_residual.result c.from_residual.ensures.1 in
    rw (p.1, p.2) (item_fails c.args.depth c.args.schemata.now c.schema-item.result c.in_err-load_schema.field-0.0 (item_in c.args.schemata.now c.loop-schema.schema-index c.schema-item.result c.loop-schema-test.true c.schema-item.is) c.in_err-load_schema.ensures)

pub load_annotation-loop-schema-preserved : goal.load_annotation-loop-schema-preserved
load_annotation-loop-schema-preserved t c =
    schemata_more c.args.depth c.args.schemata.now c.loop-schema.schema-index c.schema-item.result c.loop-schema.out.items c.in_ok-load_schema.field-0 c.push.new.self.items c.loop-schema-test.true c.schema-item.is c.in_ok-push.ensures.items c.loop-schema.invariant c.in_ok-load_schema.ensures

pub load_annotation-returns : goal.load_annotation-returns
load_annotation-returns t c =
    subst (λ (xs : List (Schema PathExpr)). LoadsAnnotation c.args.depth (draft_annotation_of xs) (annotation_of c.loop-schema.out.items)) (take_all c.loop-schema.schema-index c.args.schemata.now (omega arith)) c.loop-schema.invariant

pub load_schema-load_annotation-requires : goal.load_schema-load_annotation-requires
load_schema-load_annotation-requires t c =
    (search (rules, the_lemmas), (c.requires.range, rw c.deref.ensures.value (option_without c.args.schema.now c.in-Maybe.inside c.in-Maybe.is c.requires.no_call)))

pub load_schema-loop-branch-init : goal.load_schema-loop-branch-init
load_schema-loop-branch-init t c = rw c.new-out.ensures.items no_more

pub load_schema-load_annotation-requires-in-loop-branch :
    goal.load_schema-load_annotation-requires-in-loop-branch
load_schema-load_annotation-requires-in-loop-branch t c =
    let there : In c.branch-item.result c.in-Either.branches.items = subst (λ (xs : List (Vec (Schema PathExpr) Global)). In c.branch-item.result xs) c.deref-branch-items.ensures.value (item_in c.deref-branch-items.result.now c.loop-branch.branch-index c.branch-item.result c.loop-branch-test.true c.branch-item.is) in
    (search (rules, the_lemmas), (c.requires.range, rw c.deref-in-loop-branch.ensures.value (branch_without c.args.schema.now c.in-Either.branches c.branch-item.result c.in-Either.is there c.requires.no_call)))

pub load_schema-returns-in_err-load_annotation-in-Either :
    goal.load_schema-returns-in_err-load_annotation-in-Either
load_schema-returns-in_err-load_annotation-in-Either t c =
    let there : In c.branch-item.result c.in-Either.branches.items = subst (λ (xs : List (Vec (Schema PathExpr) Global)). In c.branch-item.result xs) c.deref-branch-items.ensures.value (item_in c.deref-branch-items.result.now c.loop-branch.branch-index c.branch-item.result c.loop-branch-test.true c.branch-item.is) in
    let p = err_from_is_err_and c.from_residual-in_err-load_annotation-in-Either.result c.from_residual-in_err-load_annotation-in-Either.ensures.1 in
    rw (p.1, p.2) (branch_fails c.args.depth c.args.schema.now c.in-Either.branches c.branch-item.result c.in_err-load_annotation-in-Either.field-0.0 c.in-Either.is there (rw (← c.deref-in-loop-branch.ensures.value) c.in_err-load_annotation-in-Either.ensures))

pub load_schema-loop-branch-preserved : goal.load_schema-loop-branch-preserved
load_schema-loop-branch-preserved t c =
    branches_more c.args.depth c.deref-branch-items.result.now c.loop-branch.branch-index c.branch-item.result c.loop-branch.out.items c.in_ok-load_annotation-in-Either.field-0 c.push.new.self.items c.loop-branch-test.true c.branch-item.is c.in_ok-push-in-Either.ensures.items c.loop-branch.invariant
    (rw (← c.deref-in-loop-branch.ensures.value) c.in_ok-load_annotation-in-Either.ensures)

pub load_schema-unreachable-requires : goal.load_schema-unreachable-requires
load_schema-unreachable-requires t c = no_such_call c.args.schema.now c.in-Call.name c.in-Call.args c.in-Call.is c.requires.no_call

pub load_schema-returns-in_ok-clone-in-Mark : goal.load_schema-returns-in_ok-clone-in-Mark
load_schema-returns-in_ok-clone-in-Mark t c =
    rw c.in_ok-clone-in-Mark.ensures.cases (subst (λ (x : DraftSchema). LoadsSchema c.args.depth x (Rattle.lfg_model.specs.Terms.mark c.in-Mark.name)) (sym (ap draft_schema_of c.in-Mark.is ∙ view_mark c.in-Mark.name)) marked)

pub load_schema-returns-in_ok-load_annotation-in-Maybe :
    goal.load_schema-returns-in_ok-load_annotation-in-Maybe
load_schema-returns-in_ok-load_annotation-in-Maybe t c =
    option_loads c.args.depth c.args.schema.now c.in-Maybe.inside c.option_of.result c.in_ok-load_annotation-in-Maybe.field-0.items c.in-Maybe.is c.option_of.ensures (rw (← c.deref.ensures.value) c.in_ok-load_annotation-in-Maybe.ensures)

pub load_schema-returns-after-loop-branch : goal.load_schema-returns-after-loop-branch
load_schema-returns-after-loop-branch t c =
    let done = subst (λ (xs : List (Vec (Schema PathExpr) Global)). LoadsBranches c.args.depth (drafted xs) (branches_from c.loop-branch.out.items))
    (take_all c.loop-branch.branch-index c.deref-branch-items.result.now (omega arith) ∙ c.deref-branch-items.ensures.value) c.loop-branch.invariant in
    disjunction_loads c.args.depth c.args.schema.now c.in-Either.branches c.disjunction_of.result c.loop-branch.out.items c.in-Either.is c.disjunction_of.ensures done
