use Rattle.std.proofs.Common.{arith}
use Rattle.std.proofs.lemmas.Result.{err_from_is_err_and}
use Rattle.std.proofs.Common.{◌≡◌, ℕ, inl, inr, Some, [], ◌∷◌}
use Rattle.lfg_model.specs.Lists.{here}
use Rattle.lfg_model.specs.Loads.{bare, strings}
use Rattle.lfg_model.specs.PathExpressions.{PathExpression, expression_of}
use Rattle.lfg_regpath.specs.Faults.{IsRefused}
use Rattle.lfg_regpath.specs.declared.fault.PathFault.{PathFault}
use Rattle.lfg_regpath.specs.declared.fault.PathFault.TheVariants as fault
use Rattle.lfg_grammar.specs.Answers.{FailsIn}
use Rattle.lfg_grammar.proofs.annotations.load_path.Goals as goal

fails_one : (depth : ℕ) (path : PathExpression) (f : PathFault) → IsRefused path depth f → FailsIn depth (path ∷ []) f
fails_one depth path fault.TooManyPaths r = record { path = path; among = here; bad = inl r }
fails_one depth path fault.NoPath r = record { path = path; among = here; bad = inr r }
fails_one depth path fault.Memory r = tt

pub returns-in_err-paths_to-in-Some : goal.returns-in_err-paths_to-in-Some
returns-in_err-paths_to-in-Some c =
    let p = err_from_is_err_and c.from_residual.result c.from_residual.ensures.1 in
    rw (p.1, p.2, c.in-Some.is) (fails_one c.args.depth (expression_of c.in-Some.path) c.in_err-paths_to-in-Some.field-0.0 c.in_err-paths_to-in-Some.ensures.refused)

pub returns-in-None : goal.returns-in-None
returns-in-None c = rw c.in-None.is bare

pub returns-in_ok-paths_to-in-Some : goal.returns-in_ok-paths_to-in-Some
returns-in_ok-paths_to-in-Some c =
    let s = c.in_ok-paths_to-in-Some.ensures.some in
    rw c.in-Some.is (strings (record { listed = c.in_ok-paths_to-in-Some.ensures.listed; some = omega arith; few = c.in_ok-paths_to-in-Some.ensures.few }))
