use Rattle.std.proofs.Common.{refl, ap, ◌∙◌, ◌∷◌, ◌++◌, []}
use Rattle.lfg_unpack.specs.Pieces.{settled, added}
use Rattle.lfg_unpack.proofs.pieces.sift.Goals as goal

pub returns-then-settled-clause-sifted : goal.returns-then-settled-clause-sifted
returns-then-settled-clause-sifted c = settled (rw c.if-settled.true at c.in_ok-settled.ensures.settled) refl

pub returns-clause-sifted : goal.returns-clause-sifted
returns-clause-sifted c = added (c.in_ok-push.ensures.items ∙ ap (λ v. c.args.left.now.items ++ v ∷ []) c.in_ok-set.ensures)
