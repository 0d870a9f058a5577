use Rattle.std.proofs.Common.{rules, arith, ◌≡◌, ◌<◌, ◌≤◌, List, map, subst, ap, ◌∙◌, Vec, Global}
use Rattle.std.proofs.lemmas.List.{take_all}
use Rattle.std.proofs.lemmas.Result.{IfOk-weaker}
use Rattle.lfg_terms.specs.declared.grammar.Schema.{Schema, size-Schema}
use Rattle.lfg_terms.specs.declared.grammar.Schema.TheViews.{the_lemmas}
use Rattle.lfg_terms.specs.declared.path_expr.PathExpr.{PathExpr}
use Rattle.lfg_model.specs.RightSides.{draft_schema_of, draft_annotation_of, draft_branches_from}
use Rattle.lfg_model.specs.DraftForms.{template_form}
use Rattle.lfg_model.specs.Templates.{Becomes, AllBecome, BranchesBecome, nothing, no_more}
use Rattle.lfg_templates.specs.Views.{binding_of}
use Rattle.lfg_templates.specs.Depth.{deepest, heaviest}
use Rattle.lfg_templates.proofs.Becoming.{becomes_define, becomes_constrain, becomes_exists, becomes_member, becomes_mark, becomes_maybe, becomes_either, becomes_call, alone_becomes, all_more, branches_more}
use Rattle.lfg_templates.proofs.Leading.{leads_deep, leads_known, leads_into, item_leads, maybe_leads, branch_leads, call_leads}
use Rattle.lfg_templates.proofs.Measures.{in_heaviest, one_less}
use Rattle.lfg_templates.proofs.expansion.+expand.Goals as goal

pub expand_all-loop-schema-init : goal.expand_all-loop-schema-init
expand_all-loop-schema-init t c = rw c.new-out.ensures.items nothing

pub expand_all-expand_one-requires : goal.expand_all-expand_one-requires
expand_all-expand_one-requires t c =
    let h : size-Schema PathExpr c.schema-item.result ≤ deepest c.args.schemata.now = search (rules, the_lemmas) in
    (omega (arith, c.decreases), item_leads (map template_form c.args.templates.now) c.args.depth c.args.schemata.now c.loop-schema.schema-index c.schema-item.result c.loop-schema-test.true c.schema-item.is c.requires)

pub expand_all-loop-schema-preserved : goal.expand_all-loop-schema-preserved
expand_all-loop-schema-preserved t c =
    all_more (map template_form c.args.templates.now) (binding_of c.args.bound.now) c.args.schemata.now c.loop-schema.schema-index c.schema-item.result c.loop-schema.out.items c.in_ok-part.part.items c.append.new.self.items
    c.loop-schema-test.true c.schema-item.is c.in_ok-append.ensures.items c.loop-schema.invariant c.in_ok-part.ensures

pub expand_one-loop-branch-init : goal.expand_one-loop-branch-init
expand_one-loop-branch-init t c = rw c.new-out.ensures.items no_more

pub expand_one-expand_all-requires-in-loop-branch :
    goal.expand_one-expand_all-requires-in-loop-branch
expand_one-expand_all-requires-in-loop-branch t c =
    let h : deepest c.deref-in-loop-branch.result.now < size-Schema PathExpr c.args.schema.now = search (rules, the_lemmas) in (
      omega (arith, c.decreases),
      rw c.deref-in-loop-branch.ensures.value (branch_leads (map template_form c.args.templates.now) c.args.depth c.args.schema.now c.in-Either.branches c.deref-branch-items.result.now c.loop-branch.branch-index c.branch-item-in-loop-branch.result
          c.in-Either.is c.deref-branch-items.ensures.value c.loop-branch-test.true c.branch-item-in-loop-branch.is c.requires),
    )

pub expand_one-loop-branch-preserved : goal.expand_one-loop-branch-preserved
expand_one-loop-branch-preserved t c =
    branches_more (map template_form c.args.templates.now) (binding_of c.args.bound.now) c.deref-branch-items.result.now c.loop-branch.branch-index c.branch-item-in-loop-branch.result c.loop-branch.out.items c.in_ok-expand_all-in-Either.field-0 c.push.new.self.items
    c.loop-branch-test.true c.branch-item-in-loop-branch.is c.in_ok-push-in-Either.ensures.items c.loop-branch.invariant (rw (← c.deref-in-loop-branch.ensures.value) c.in_ok-expand_all-in-Either.ensures)

pub expand_one-unreachable-requires : goal.expand_one-unreachable-requires
expand_one-unreachable-requires t c =
    leads_known (call_leads (map template_form c.args.templates.now) c.args.depth c.args.schema.now c.in-Call.name c.in-Call.args c.in-Call.is c.requires) c.in_default.ensures.first

pub expand_one-overflow_sub-depth : goal.expand_one-overflow_sub-depth
expand_one-overflow_sub-depth t c = leads_deep (call_leads (map template_form c.args.templates.now) c.args.depth c.args.schema.now c.in-Call.name c.in-Call.args c.in-Call.is c.requires)

pub expand_one-expand_all-requires-in-Call : goal.expand_one-expand_all-requires-in-Call
expand_one-expand_all-requires-in-Call t c =
    let h = in_heaviest c.in-Some.template.now c.in-Some.ensures.among in
    let lead = call_leads (map template_form c.args.templates.now) c.args.depth c.args.schema.now c.in-Call.name c.in-Call.args c.in-Call.is c.requires in
    let l = leads_deep lead in
    let m = one_less c.args.depth (heaviest c.args.templates.now) (omega arith) in
    let e : deepest c.list-in-Call-3.result.now ≡ deepest c.in-Some.template.now.body = ap deepest c.list-in-Call-3.ensures in
    (omega (arith, c.decreases), rw c.list-in-Call-3.ensures (leads_into (map template_form c.args.templates.now) (template_form c.in-Some.template.now) lead c.in-Some.ensures.first))

pub expand_one-expand_all-requires : goal.expand_one-expand_all-requires
expand_one-expand_all-requires t c =
    let h : deepest c.deref.result.now < size-Schema PathExpr c.args.schema.now = search (rules, the_lemmas) in
    (omega (arith, c.decreases), rw c.deref.ensures.value (maybe_leads (map template_form c.args.templates.now) c.args.depth c.args.schema.now c.in-Maybe.inside c.in-Maybe.is c.requires))

pub expand_one-returns-in_ok-right-in-Define : goal.expand_one-returns-in_ok-right-in-Define
expand_one-returns-in_ok-right-in-Define t c =
    alone_becomes (map template_form c.args.templates.now) (binding_of c.args.bound.now) c.args.schema.now c.define.result c.alone.result
    (λ v e. becomes_define (map template_form c.args.templates.now) (binding_of c.args.bound.now) c.args.schema.now v c.define.result e c.in-Define.left c.in-Define.right c.in_ok-left-in-Define.left c.in_ok-right-in-Define.right
    c.in-Define.is c.define.ensures c.in_ok-left-in-Define.ensures c.in_ok-right-in-Define.ensures)
    c.alone.ensures

pub expand_one-returns-in_ok-right-in-Constrain : goal.expand_one-returns-in_ok-right-in-Constrain
expand_one-returns-in_ok-right-in-Constrain t c =
    alone_becomes (map template_form c.args.templates.now) (binding_of c.args.bound.now) c.args.schema.now c.constrain.result c.alone-in-Constrain.result
    (λ v e. becomes_constrain (map template_form c.args.templates.now) (binding_of c.args.bound.now) c.args.schema.now v c.constrain.result e c.in-Constrain.negated c.in-Constrain.left c.in-Constrain.right c.in_ok-left-in-Constrain.left c.in_ok-right-in-Constrain.right
    c.in-Constrain.is c.constrain.ensures c.in_ok-left-in-Constrain.ensures c.in_ok-right-in-Constrain.ensures)
    c.alone-in-Constrain.ensures

pub expand_one-returns-in_ok-left-in-Exists : goal.expand_one-returns-in_ok-left-in-Exists
expand_one-returns-in_ok-left-in-Exists t c =
    alone_becomes (map template_form c.args.templates.now) (binding_of c.args.bound.now) c.args.schema.now c.exists.result c.alone-in-Exists.result
    (λ v e. becomes_exists (map template_form c.args.templates.now) (binding_of c.args.bound.now) c.args.schema.now v c.exists.result e c.in-Exists.negated c.in-Exists.left c.in_ok-left-in-Exists.left
    c.in-Exists.is c.exists.ensures c.in_ok-left-in-Exists.ensures)
    c.alone-in-Exists.ensures

pub expand_one-returns-in_ok-set-in-Member : goal.expand_one-returns-in_ok-set-in-Member
expand_one-returns-in_ok-set-in-Member t c =
    alone_becomes (map template_form c.args.templates.now) (binding_of c.args.bound.now) c.args.schema.now c.member.result c.alone-in-Member.result
    (λ v e. becomes_member (map template_form c.args.templates.now) (binding_of c.args.bound.now) c.args.schema.now v c.member.result e c.in-Member.item c.in-Member.set c.in_ok-item-in-Member.item c.in_ok-set-in-Member.set
    c.in-Member.is c.member.ensures c.in_ok-item-in-Member.ensures c.in_ok-set-in-Member.ensures)
    c.alone-in-Member.ensures

pub expand_one-returns-in_ok-name_with-in-Mark : goal.expand_one-returns-in_ok-name_with-in-Mark
expand_one-returns-in_ok-name_with-in-Mark t c =
    alone_becomes (map template_form c.args.templates.now) (binding_of c.args.bound.now) c.args.schema.now c.mark.result c.alone-in-Mark.result
    (λ v e. becomes_mark (map template_form c.args.templates.now) (binding_of c.args.bound.now) c.args.schema.now v c.mark.result e c.in-Mark.name c.in_ok-name_with-in-Mark.field-0
    c.in-Mark.is c.mark.ensures c.in_ok-name_with-in-Mark.ensures)
    c.alone-in-Mark.ensures

pub expand_one-returns-in_ok-inside-in-Maybe : goal.expand_one-returns-in_ok-inside-in-Maybe
expand_one-returns-in_ok-inside-in-Maybe t c =
    alone_becomes (map template_form c.args.templates.now) (binding_of c.args.bound.now) c.args.schema.now c.maybe.result c.alone-in-Maybe.result
    (λ v e. becomes_maybe (map template_form c.args.templates.now) (binding_of c.args.bound.now) c.args.schema.now v c.maybe.result e c.in-Maybe.inside c.in_ok-inside-in-Maybe.inside.items
    c.in-Maybe.is c.maybe.ensures (rw (← c.deref.ensures.value) c.in_ok-inside-in-Maybe.ensures))
    c.alone-in-Maybe.ensures

pub expand_one-returns-after-loop-branch : goal.expand_one-returns-after-loop-branch
expand_one-returns-after-loop-branch t c =
    let whole = take_all c.loop-branch.branch-index c.deref-branch-items.result.now (omega arith) in
    let done = subst (λ (xs : List (Vec (Schema PathExpr) Global)). BranchesBecome (map template_form c.args.templates.now) (binding_of c.args.bound.now) (draft_branches_from (map (λ b. draft_annotation_of b.items) xs)) (map (λ b. draft_annotation_of b.items) c.loop-branch.out.items))
    (whole ∙ c.deref-branch-items.ensures.value) c.loop-branch.invariant in
    alone_becomes (map template_form c.args.templates.now) (binding_of c.args.bound.now) c.args.schema.now c.either.result c.alone-in-Either.result
    (λ v e. becomes_either (map template_form c.args.templates.now) (binding_of c.args.bound.now) c.args.schema.now v c.either.result e c.in-Either.branches (map (λ b. draft_annotation_of b.items) c.loop-branch.out.items)
    c.in-Either.is c.either.ensures done)
    c.alone-in-Either.ensures

pub expand_one-returns-in-Some : goal.expand_one-returns-in-Some
expand_one-returns-in-Some t c =
    IfOk-weaker c.expand_all-in-Call.result
    (λ v. AllBecome (map template_form c.args.templates.now) (record { params = c.in-Some.template.now.params; args = c.in_ok-args-in-Call.args }) (draft_annotation_of c.in-Some.template.now.body) (map draft_schema_of v.items))
    (λ v. Becomes (map template_form c.args.templates.now) (binding_of c.args.bound.now) (draft_schema_of c.args.schema.now) (map draft_schema_of v.items))
    (λ v h. becomes_call (map template_form c.args.templates.now) (binding_of c.args.bound.now) c.args.schema.now c.in-Call.name c.in-Call.args c.in_ok-args-in-Call.args (template_form c.in-Some.template.now) (map draft_schema_of v.items)
    c.in-Call.is (rw (← c.list.ensures) c.in_ok-args-in-Call.ensures) c.in-Some.ensures.first h)
    (rw (← c.list-in-Call.ensures, ← c.list-in-Call-2.ensures, ← c.list-in-Call-3.ensures) c.expand_all-in-Call.ensures)
