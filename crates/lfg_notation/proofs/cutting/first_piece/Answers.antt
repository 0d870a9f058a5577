use Rattle.std.proofs.Common.{◌∙◌, ap, sym}
use Rattle.lfg_model.specs.EntryNotation.{separates}
use Rattle.lfg_notation.proofs.PieceLaws.{found, further, all_open}
use Rattle.lfg_notation.proofs.cutting.first_piece.Goals as goal

pub returns-then-separates-clause-cut : goal.returns-then-separates-clause-cut
returns-then-separates-clause-cut c = found c.args.separator c.args.lexemes.now c.loop-i.i c.index-lexemes-i.result c.loop-i-test.true c.loop-i.invariant
    (ap (separates c.args.separator) (sym c.index-lexemes-i.is) ∙ sym c.separates.ensures ∙ c.if-separates.true)

pub loop-i-preserved : goal.loop-i-preserved
loop-i-preserved c = further c.args.separator c.args.lexemes.now c.loop-i.i c.index-lexemes-i.result c.loop-i-test.true c.loop-i.invariant
    (ap (separates c.args.separator) (sym c.index-lexemes-i.is) ∙ sym c.separates.ensures ∙ c.if-separates.false)

pub returns-clause-cut : goal.returns-clause-cut
returns-clause-cut c = all_open c.args.separator c.args.lexemes.now c.loop-i.i c.requires c.loop-i-test.false c.loop-i.invariant
