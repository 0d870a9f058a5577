use Rattle.std.proofs.lemmas.Result.{err_from_is_err_and}
use Rattle.lfg_model.specs.Loads.{membership, path_of, val_paths}
use Rattle.lfg_model.specs.RightSides.{draft_des_of, draft_val_of}
use Rattle.lfg_grammar.proofs.Fails.{fails_left, fails_right}
use Rattle.lfg_grammar.proofs.annotations.load_member.Goals as goal

pub returns-in_err-item : goal.returns-in_err-item
returns-in_err-item c =
    let p = err_from_is_err_and c.from_residual.result c.from_residual.ensures.1 in
    rw (p.1, p.2) (fails_left c.args.depth (path_of (draft_des_of c.args.item.now).path) (path_of (draft_des_of c.args.set.now).path) c.in_err-item.field-0.0 c.in_err-item.ensures)

pub returns-in_err-set : goal.returns-in_err-set
returns-in_err-set c =
    let p = err_from_is_err_and c.from_residual-in_err-set.result c.from_residual-in_err-set.ensures.1 in
    rw (p.1, p.2) (fails_right c.args.depth (path_of (draft_des_of c.args.item.now).path) (path_of (draft_des_of c.args.set.now).path) c.in_err-set.field-0.0 c.in_err-set.ensures)

pub returns : goal.returns
returns c = membership c.in_ok-item.ensures c.in_ok-set.ensures
