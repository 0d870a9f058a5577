use Rattle.std.proofs.Common.{rules, arith, ◌∙◌, sym, ap, map, length}
use Rattle.std.proofs.lemmas.Result.{err_from_is_err_and}
use Rattle.lfg_model.specs.Nests.{readers}
use Rattle.lfg_terms.specs.declared.grammar.Schema.{Schema}
use Rattle.lfg_terms.specs.declared.path_expr.PathExpr.{PathExpr}
use Rattle.lfg_model.specs.RightSides.{draft_schema_of, draft_annotation_of}
use Rattle.lfg_model.specs.SchemaNotation.{schema_by, schemata}
use Rattle.lfg_model.proofs.SchemaNotationLaws.{schemata_down}
use Rattle.lfg_model.proofs.NestTurns.{item_on, item_last, item_none, branch_on, branch_last, branch_none, branch_bad, pushed, pushed_as}
use Rattle.lfg_notation.specs.Views.{branch_of}
use Rattle.lfg_notation.proofs.Refusals.{refused}
use Rattle.lfg_notation.proofs.schemata.+schemata.Goals as goal

pub annotation_at-returns-then-not-begins_schema-clause-read : goal.annotation_at-returns-then-not-begins_schema-clause-read
annotation_at-returns-then-not-begins_schema-clause-read t c =
    sym c.loop-parts.invariant.read ∙ item_last schemata schemata_down (map draft_schema_of c.loop-parts.parts.items) (map draft_schema_of c.push.new.self.items) (draft_schema_of c.in_ok-part.part) c.loop-parts.rest.now c.in_ok-part.behind.now
    c.in_ok-part.ensures.read (search rules) (pushed draft_schema_of c.loop-parts.parts.items c.push.new.self.items c.in_ok-part.part c.in_ok-push.ensures.items)

pub annotation_at-loop-parts-preserved : goal.annotation_at-loop-parts-preserved
annotation_at-loop-parts-preserved t c = record {
  shorter = omega (arith, c.in_ok-part.ensures.shorter);
  read = item_on schemata schemata_down (map draft_schema_of c.loop-parts.parts.items) (map draft_schema_of c.push.new.self.items) (draft_schema_of c.in_ok-part.part) c.loop-parts.rest.now c.in_ok-part.behind.now
      c.in_ok-part.ensures.read (search rules) (pushed draft_schema_of c.loop-parts.parts.items c.push.new.self.items c.in_ok-part.part c.in_ok-push.ensures.items) ∙ c.loop-parts.invariant.read;
}

pub annotation_at-returns-in_err-part-clause-read : goal.annotation_at-returns-in_err-part-clause-read
annotation_at-returns-in_err-part-clause-read t c =
    let p = err_from_is_err_and c.from_residual.result c.from_residual.ensures.1 in
    rw (p.1, p.2) (refused c.in_err-part.field-0.0 (schema_by (readers schemata) c.loop-parts.rest.now) ((readers schemata).row c.args.lexemes.now)
    (λ n. sym c.loop-parts.invariant.read ∙ item_none schemata schemata_down (map draft_schema_of c.loop-parts.parts.items) c.loop-parts.rest.now n) c.in_err-part.ensures.read)

pub alternatives_at-returns-in_err-parts-clause-read : goal.alternatives_at-returns-in_err-parts-clause-read
alternatives_at-returns-in_err-parts-clause-read t c =
    let p = err_from_is_err_and c.from_residual.result c.from_residual.ensures.1 in
    rw (p.1, p.2) (refused c.in_err-parts.field-0.0 ((readers schemata).row c.loop-branches.rest.now) ((readers schemata).branches c.args.lexemes.now)
    (λ n. sym c.loop-branches.invariant.read ∙ branch_none schemata schemata_down (map branch_of c.loop-branches.branches.items) c.loop-branches.rest.now n) c.in_err-parts.ensures.read)

pub alternatives_at-loop-branches-preserved : goal.alternatives_at-loop-branches-preserved
alternatives_at-loop-branches-preserved t c = record {
  shorter = omega (arith, c.in_ok-parts.ensures.shorter, ap length c.in-More.ensures);
  read = branch_on schemata schemata_down (map branch_of c.loop-branches.branches.items) (map branch_of c.push.new.self.items) (map draft_schema_of c.in_ok-parts.parts.items) c.loop-branches.rest.now c.in_ok-parts.behind.now c.in-More.behind.now
      c.in_ok-parts.ensures.read c.in-More.ensures (pushed branch_of c.loop-branches.branches.items c.push.new.self.items c.in_ok-parts.parts c.in_ok-push.ensures.items) ∙ c.loop-branches.invariant.read;
}

pub alternatives_at-returns-in-Last-clause-read : goal.alternatives_at-returns-in-Last-clause-read
alternatives_at-returns-in-Last-clause-read t c = sym c.loop-branches.invariant.read
    ∙ branch_last schemata schemata_down (map branch_of c.loop-branches.branches.items) (map branch_of c.push.new.self.items) (map draft_schema_of c.in_ok-parts.parts.items) c.loop-branches.rest.now c.in_ok-parts.behind.now c.in-Last.behind.now
    c.in_ok-parts.ensures.read c.in-Last.ensures (pushed branch_of c.loop-branches.branches.items c.push.new.self.items c.in_ok-parts.parts c.in_ok-push.ensures.items)

pub alternatives_at-returns-in-Neither-clause-read : goal.alternatives_at-returns-in-Neither-clause-read
alternatives_at-returns-in-Neither-clause-read t c = sym c.loop-branches.invariant.read
    ∙ branch_bad schemata schemata_down (map branch_of c.loop-branches.branches.items) (map draft_schema_of c.in_ok-parts.parts.items) c.loop-branches.rest.now c.in_ok-parts.behind.now c.in_ok-parts.ensures.read c.in-Neither.ensures
