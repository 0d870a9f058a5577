use Rattle.std.proofs.Common.{◌≤◌, ℕ, List, [], suc, take, drop, length, subst, arith, get_or, Bor}
use Rattle.std.specs.Prelude.{IsOk}
use Rattle.std.specs.List.{flat_map}
use Rattle.std.proofs.lemmas.List.Folds.{length-flat_map-take}
use Rattle.lfg_io.proofs.Appending.{AppendsPrefix-more, pieces_split, on_err}
use Rattle.lfg_io.proofs.sink.put_pieces.Given as given
use Rattle.lfg_io.proofs.sink.put_pieces.Goals as goal

-- what stands for a piece past the last
no_piece : Bor (List ℕ)
no_piece = record { ref_ptr = (0, 0); now = [] }

pub returns-in_err-put-clause-cut : goal.returns-in_err-put-clause-cut
unfolding no_piece
returns-in_err-put-clause-cut g c =
    let pieces = c.args.pieces.now in
    let i = c.loop-piece.piece-index in
    on_err c.from_residual.result
    (AppendsPrefix-more (g.O.Sink.written c.args.out.now) (g.O.Sink.written c.loop-piece.out) (g.O.Sink.written c.put.new.self)
    (flat_map (λ piece. piece.now) (take i pieces)) (get_or pieces i no_piece).now (flat_map (λ piece. piece.now) (drop (suc i) pieces)) (flat_map (λ piece. piece.now) pieces)
    (pieces_split (λ piece. piece.now) pieces i no_piece c.loop-piece-test.true) c.loop-piece.invariant.0 c.in_err-put.ensures.cut)

-- no put fails where the room has place for all pieces
no_fault : (g : given.Over) (c : goal.After-from_residual g) → length (flat_map (λ piece. piece.now) c.args.pieces.now) ≤ g.O.Sink.room c.args.out.now → ⊥
unfolding no_piece
no_fault g c h =
    let pieces = c.args.pieces.now in
    let i = c.loop-piece.piece-index in
    let within = length-flat_map-take (λ piece. piece.now) pieces i no_piece c.loop-piece-test.true in
    let room = c.loop-piece.invariant.2 (omega (arith, within)) in
    let fits : length (get_or pieces i no_piece).now ≤ g.O.Sink.room c.loop-piece.out = omega (arith, within, room) in
    let fine : IsOk c.put.result = c.put.ensures.sure fits in
    let no = subst IsOk c.in_err-put.was fine in cc

pub returns-in_err-put-clause-sure : goal.returns-in_err-put-clause-sure
returns-in_err-put-clause-sure g c h = absurd (no_fault g c h)

pub returns-in_err-put-clause-room_left : goal.returns-in_err-put-clause-room_left
returns-in_err-put-clause-room_left g c h = absurd (no_fault g c h)
