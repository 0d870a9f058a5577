use Rattle.std.proofs.Common.{◌≤◌, length, take}
use Rattle.lfg_context.specs.Sets.{IsMade, IsGrown, HasSamePicks}
use Rattle.lfg_unpack.specs.Pieces.{AllMade, Includes, Settles}
use Rattle.lfg_unpack.proofs.pieces.unsettled.Given as goal

abbrev pub invariant-loop-set : goal.invariant-loop-set
invariant-loop-set l = record {
  piece_made : IsMade l.contexts l.piece;
  sets_made : AllMade l.contexts l.sets;
  grown : IsGrown l.fn.contexts l.contexts;
  picks : HasSamePicks l.fn.contexts l.contexts;
  fewer : length l.left.items ≤ l.set-index;
  among : Includes l.left.items l.sets;
  settles : Settles l.piece (take l.set-index l.sets) l.left.items;
}
