use Rattle.std.proofs.lemmas.Result.{err_from_is_err_and}
use Rattle.lfg_model.specs.Loads.{constraining, path_of, val_paths}
use Rattle.lfg_model.specs.RightSides.{draft_des_of, draft_val_of}
use Rattle.lfg_grammar.proofs.Fails.{fails_left, fails_right}
use Rattle.lfg_grammar.proofs.annotations.load_constrain.Goals as goal

pub returns-in_err-left : goal.returns-in_err-left
returns-in_err-left c =
    let p = err_from_is_err_and c.from_residual.result c.from_residual.ensures.1 in
    rw (p.1, p.2) (fails_left c.args.depth (path_of (draft_des_of c.args.left.now).path) (val_paths (draft_val_of c.args.right.now)) c.in_err-left.field-0.0 c.in_err-left.ensures)

pub returns-in_err-right : goal.returns-in_err-right
returns-in_err-right c =
    let p = err_from_is_err_and c.from_residual-in_err-right.result c.from_residual-in_err-right.ensures.1 in
    rw (p.1, p.2) (fails_right c.args.depth (path_of (draft_des_of c.args.left.now).path) (val_paths (draft_val_of c.args.right.now)) c.in_err-right.field-0.0 c.in_err-right.ensures)

pub returns : goal.returns
returns c = constraining c.in_ok-left.ensures c.in_ok-right.ensures
