use Rattle.std.proofs.Common.{◌≡◌, ◌<◌, ℕ, [], length, sym, ◌∙◌, ap, subst, arith}
use Rattle.lfg_unify.specs.Closures.{Row, Ascends}
use Rattle.lfg_unify.specs.Rows.{row_of}
use Rattle.lfg_unify.proofs.SweepLaws.{growth_trans}
use Rattle.lfg_unify.proofs.ClassLaws.{copied_held}
use Rattle.lfg_unify.proofs.classes.merge.Goals as goal

pub spread-requires-clause-held : goal.spread-requires-clause-held
spread-requires-clause-held c =
    let e : c.as_slice-far.result.now ≡ row_of c.args.table.now c.args.second = c.as_slice-far.ensures.value ∙ c.in_ok-right.ensures ∙ c.row-2.ensures.row in
    copied_held c.args.table.now c.args.table.now c.as_slice-far.result.now c.args.second e (λ a x y h. h)

pub spread-requires-2-clause-held : goal.spread-requires-2-clause-held
spread-requires-2-clause-held c =
    let e : c.as_slice-near.result.now ≡ row_of c.args.table.now c.args.first = c.as_slice-near.ensures.value ∙ c.in_ok-left.ensures ∙ c.row.ensures.row in
    copied_held c.args.table.now c.spread.new.table c.as_slice-near.result.now c.args.first e (c.in_ok-spread.ensures.growth []).keeps

pub returns-clause-growth : goal.returns-clause-growth
returns-clause-growth c = λ arcs. growth_trans arcs c.args.table.now c.spread.new.table c.spread-2.new.table (c.in_ok-spread.ensures.growth arcs) (c.in_ok-spread-2.ensures.growth arcs)
