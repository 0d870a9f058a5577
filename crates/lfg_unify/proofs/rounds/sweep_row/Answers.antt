use Rattle.std.proofs.Common.{◌≡◌, sym, ◌∙◌, subst}
use Rattle.lfg_unify.specs.Closures.{Row}
use Rattle.lfg_unify.specs.Rows.{row_of, Sweeps}
use Rattle.lfg_unify.proofs.SweepLaws.{sweep_growth}
use Rattle.lfg_unify.proofs.rounds.sweep_row.Goals as goal

pub returns-clause-growth : goal.returns-clause-growth
returns-clause-growth c = λ arcs.
    let e : c.deref.result.now ≡ row_of c.args.table.now c.args.place = c.deref.ensures.value ∙ c.in_ok-row.ensures ∙ c.row.ensures.row in
    sweep_growth arcs c.args.table.now c.take_rows.new.table c.args.place c.in_ok-changed.ensures.len c.in_ok-changed.ensures.others
    (subst (λ (r : Row). Sweeps c.args.table.now (row_of c.args.table.now c.args.place) r (row_of c.take_rows.new.table c.args.place)) e c.in_ok-changed.ensures.step)
