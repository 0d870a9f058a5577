use Rattle.std.proofs.Common.{List, length, sym, subst, ◌∙◌}
use Rattle.lfg_unify.specs.Closures.{Row, Ascends}
use Rattle.lfg_unify.specs.Rows.{AreAscending}
use Rattle.lfg_unify.proofs.RowLaws.{row_at}
use Rattle.lfg_unify.proofs.table.Table.row.Goals as goal

pub returns-clause-ascends : goal.returns-clause-ascends
returns-clause-ascends c =
    let e = row_at (λ row. row.items) c.self.inside.rows.items c.args.self.now c.args.place c.index.result.now c.self.view_is c.requires c.index.ensures in
    let a = subst (λ (rows : List Row). AreAscending rows) c.self.view_is c.self.invariant in
    subst (λ (r : Row). Ascends (length c.args.self.now) 0 r) (e ∙ sym c.deref.ensures.value) (a.each c.args.place)
