use Rattle.std.proofs.Common.{◌-◌, ◌^◌, ap, ◌∙◌, sym, min}
use Rattle.lfg_model.specs.Trees.{width}
use Rattle.lfg_solve.proofs.ViewLaws.{inner_tree}
use Rattle.lfg_solve.proofs.derivation.+widths.Goals as goal

pub width-returns-in-Inner : goal.width-returns-in-Inner
width-returns-in-Inner t c =
    let same = inner_tree c.args.derivation.now c.in-Inner.cat c.in-Inner.parts c.deref.result.now c.in-Inner.is c.deref.ensures.value in
    c.parts_width.ensures ∙ ap (λ d. min (width d) (2 ^ 32 - 1)) (sym same)
