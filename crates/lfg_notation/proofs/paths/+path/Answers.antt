use Rattle.std.proofs.Common.{rules, arith, ◌∙◌, sym, ap, map, length}
use Rattle.std.proofs.lemmas.Result.{err_from_is_err_and}
use Rattle.lfg_model.specs.Nests.{readers}
use Rattle.lfg_model.specs.PathExpressions.{expression_of}
use Rattle.lfg_model.specs.PathNotation.{path_row, part_by, paths}
use Rattle.lfg_model.proofs.PathNotationLaws.{paths_down}
use Rattle.lfg_model.proofs.NestTurns.{item_on, item_last, item_none, branch_on, branch_last, branch_none, branch_bad, pushed, pushed_as}
use Rattle.lfg_notation.proofs.Refusals.{refused}
use Rattle.lfg_notation.proofs.paths.+path.Goals as goal

pub path_at-returns-then-not-begins_path-clause-read : goal.path_at-returns-then-not-begins_path-clause-read
path_at-returns-then-not-begins_path-clause-read t c =
    sym c.loop-parts.invariant.read ∙ item_last paths paths_down (map expression_of c.loop-parts.parts.items) (map expression_of c.push.new.self.items) (expression_of c.in_ok-part.part) c.loop-parts.rest.now c.in_ok-part.behind.now
    c.in_ok-part.ensures.read (search rules) (pushed expression_of c.loop-parts.parts.items c.push.new.self.items c.in_ok-part.part c.in_ok-push.ensures.items)

pub path_at-loop-parts-preserved : goal.path_at-loop-parts-preserved
path_at-loop-parts-preserved t c = record {
  shorter = omega (arith, c.in_ok-part.ensures.shorter);
  read = item_on paths paths_down (map expression_of c.loop-parts.parts.items) (map expression_of c.push.new.self.items) (expression_of c.in_ok-part.part) c.loop-parts.rest.now c.in_ok-part.behind.now
      c.in_ok-part.ensures.read (search rules) (pushed expression_of c.loop-parts.parts.items c.push.new.self.items c.in_ok-part.part c.in_ok-push.ensures.items) ∙ c.loop-parts.invariant.read;
}

pub path_at-returns-in_err-part-clause-read : goal.path_at-returns-in_err-part-clause-read
path_at-returns-in_err-part-clause-read t c =
    let p = err_from_is_err_and c.from_residual.result c.from_residual.ensures.1 in
    rw (p.1, p.2) (refused c.in_err-part.field-0.0 (part_by (readers paths) c.loop-parts.rest.now) ((readers paths).row c.args.lexemes.now)
    (λ n. sym c.loop-parts.invariant.read ∙ item_none paths paths_down (map expression_of c.loop-parts.parts.items) c.loop-parts.rest.now n) c.in_err-part.ensures.read)

pub branches_at-returns-in_err-parts-clause-read : goal.branches_at-returns-in_err-parts-clause-read
branches_at-returns-in_err-parts-clause-read t c =
    let p = err_from_is_err_and c.from_residual.result c.from_residual.ensures.1 in
    rw (p.1, p.2) (refused c.in_err-parts.field-0.0 ((readers paths).row c.loop-branches.rest.now) ((readers paths).branches c.args.lexemes.now)
    (λ n. sym c.loop-branches.invariant.read ∙ branch_none paths paths_down (map expression_of c.loop-branches.branches.items) c.loop-branches.rest.now n) c.in_err-parts.ensures.read)

pub branches_at-loop-branches-preserved : goal.branches_at-loop-branches-preserved
branches_at-loop-branches-preserved t c = record {
  shorter = omega (arith, c.in_ok-parts.ensures.shorter, ap length c.in-More.ensures);
  read = branch_on paths paths_down (map expression_of c.loop-branches.branches.items) (map expression_of c.push.new.self.items) (map expression_of c.in_ok-parts.parts.items) c.loop-branches.rest.now c.in_ok-parts.behind.now c.in-More.behind.now
      c.in_ok-parts.ensures.read c.in-More.ensures (pushed_as expression_of c.loop-branches.branches.items c.push.new.self.items c.row_of-branch.result (path_row (map expression_of c.in_ok-parts.parts.items)) c.in_ok-push.ensures.items c.row_of-branch.ensures) ∙ c.loop-branches.invariant.read;
}

pub branches_at-returns-in-Last-clause-read : goal.branches_at-returns-in-Last-clause-read
branches_at-returns-in-Last-clause-read t c = sym c.loop-branches.invariant.read
    ∙ branch_last paths paths_down (map expression_of c.loop-branches.branches.items) (map expression_of c.push.new.self.items) (map expression_of c.in_ok-parts.parts.items) c.loop-branches.rest.now c.in_ok-parts.behind.now c.in-Last.behind.now
    c.in_ok-parts.ensures.read c.in-Last.ensures (pushed_as expression_of c.loop-branches.branches.items c.push.new.self.items c.row_of-branch.result (path_row (map expression_of c.in_ok-parts.parts.items)) c.in_ok-push.ensures.items c.row_of-branch.ensures)

pub branches_at-returns-in-Neither-clause-read : goal.branches_at-returns-in-Neither-clause-read
branches_at-returns-in-Neither-clause-read t c = sym c.loop-branches.invariant.read
    ∙ branch_bad paths paths_down (map expression_of c.loop-branches.branches.items) (map expression_of c.in_ok-parts.parts.items) c.loop-branches.rest.now c.in_ok-parts.behind.now c.in_ok-parts.ensures.read c.in-Neither.ensures
