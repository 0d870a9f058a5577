use Rattle.std.proofs.Common.{rules, arith, ◌≡◌, ◌+◌, ◌-◌, length, take}
use Rattle.lfg_lexer.specs.Seen.{piece}
use Rattle.lfg_model.specs.Tokens.{width}
use Rattle.lfg_model.proofs.PieceEnds.{piece_shorter, piece_width, width_len}
use Rattle.lfg_lexer.proofs.Rows.{stops, ends, grown, further_on}
use Rattle.lfg_lexer.proofs.lexer.tokens_in.Goals as goal

pub returns-in_default : goal.returns-in_default
returns-in_default c = record { tokens = tt; stuck = c.loop-rest.invariant.stuck c.loop-rest.at (stops c.loop-rest.at c.loop-rest.rest.now (search rules) (rw c.in_default.is at c.in_ok-found.ensures)) }

pub slice_bounds-width-count : goal.slice_bounds-width-count
slice_bounds-width-count c =
    let s = piece_shorter c.loop-rest.rest.now c.in-Some.behind.now (piece c.in-Some.found) (rw c.in-Some.is at c.in_ok-found.ensures) in
    omega arith

pub width-requires : goal.width-requires
width-requires c =
    let s = piece_width c.loop-rest.rest.now c.in-Some.behind.now (piece c.in-Some.found) (rw c.in-Some.is at c.in_ok-found.ensures) in
    let w = width_len (take (length c.loop-rest.rest.now - length c.in-Some.behind.now) c.loop-rest.rest.now) in
    let p : c.loop-rest.at + width c.loop-rest.rest.now ≡ width c.args.chars.now = c.loop-rest.invariant.place in
    omega arith

pub overflow_add-to : goal.overflow_add-to
overflow_add-to c =
    let s = piece_width c.loop-rest.rest.now c.in-Some.behind.now (piece c.in-Some.found) (rw c.in-Some.is at c.in_ok-found.ensures) in
    let p : c.loop-rest.at + width c.loop-rest.rest.now ≡ width c.args.chars.now = c.loop-rest.invariant.place in
    omega arith

pub loop-rest-smaller : goal.loop-rest-smaller
loop-rest-smaller c = piece_shorter c.loop-rest.rest.now c.in-Some.behind.now (piece c.in-Some.found) (rw c.in-Some.is at c.in_ok-found.ensures)

pub loop-rest-preserved : goal.loop-rest-preserved
loop-rest-preserved c =
    let s = piece_width c.loop-rest.rest.now c.in-Some.behind.now (piece c.in-Some.found) (rw c.in-Some.is at c.in_ok-found.ensures) in
    let p : c.loop-rest.at + width c.loop-rest.rest.now ≡ width c.args.chars.now = c.loop-rest.invariant.place in
    let e : c.loop-rest.at + width c.loop-rest.rest.now ≡ (c.loop-rest.at + c.width.result) + width c.in-Some.behind.now = omega arith in
    record {
      place = omega arith;
      read = λ ts r. grown c.loop-rest.at (c.loop-rest.at + c.width.result) c.args.chars.now c.loop-rest.rest.now c.in-Some.behind.now (piece c.in-Some.found) c.loop-rest.tokens.items c.keep.new.tokens.items ts
          (rw c.in-Some.is at c.in_ok-found.ensures) e c.in_ok-keep.ensures c.loop-rest.invariant.read r;
      stuck = λ stop r. c.loop-rest.invariant.stuck stop (further_on c.loop-rest.at (c.loop-rest.at + c.width.result) stop c.loop-rest.rest.now c.in-Some.behind.now (piece c.in-Some.found) (rw c.in-Some.is at c.in_ok-found.ensures) e r);
    }

pub returns : goal.returns
returns c = record { tokens = ends c.loop-rest.at c.args.chars.now c.loop-rest.rest.now c.loop-rest.tokens.items (search rules) c.loop-rest.invariant.read; stuck = tt }
