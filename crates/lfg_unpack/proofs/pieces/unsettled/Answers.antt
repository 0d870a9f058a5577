use Rattle.std.proofs.Common.{rules, arith}
use Rattle.lfg_context.proofs.Growing.{growing}
use Rattle.lfg_unpack.proofs.Splitting.{settles_none, settles_sifted, settles_all, includes_none, includes_sifted, sifted_longer}
use Rattle.lfg_unpack.proofs.pieces.unsettled.Goals as goal

pub loop-set-init : goal.loop-set-init
loop-set-init c = record {
  piece_made = search (rules, growing);
  sets_made = search (rules, growing);
  grown = search (rules, growing);
  picks = search (rules, growing);
  fewer = search rules;
  among = rw c.new-left.ensures.items (includes_none c.args.sets.now);
  settles = rw c.new-left.ensures.items (settles_none c.args.piece.now);
}

pub loop-set-preserved : goal.loop-set-preserved
loop-set-preserved c = record {
  piece_made = search (rules, growing);
  sets_made = search (rules, growing);
  grown = search (rules, growing);
  picks = search (rules, growing);
  fewer = (let g = sifted_longer _ _ _ _ c.in_ok-sift.ensures.sifted in omega arith);
  among = includes_sifted c.args.piece.now c.args.sets.now c.loop-set.set-index c.set-item.result _ _ (omega arith) c.set-item.is c.loop-set.invariant.among c.in_ok-sift.ensures.sifted;
  settles = settles_sifted c.args.piece.now c.args.sets.now c.loop-set.set-index c.set-item.result _ _ (omega arith) c.set-item.is c.loop-set.invariant.settles c.in_ok-sift.ensures.sifted;
}

pub returns-clause-settles : goal.returns-clause-settles
returns-clause-settles c = settles_all c.args.piece.now c.args.sets.now c.loop-set.set-index c.loop-set.left.items (omega arith) c.loop-set.invariant.settles
