use Rattle.std.proofs.Common.{◌≡◌, ◌≢◌, ◌<◌, ℕ, List, length, map, get_or, slice_set, false, subst, sym, ◌∙◌, ap, arith}
use Rattle.std.specs.Prelude.{OnOk}
use Rattle.std.proofs.lemmas.List.{length-map}
use Rattle.lfg_unify.specs.Closures.{Row, Ascends}
use Rattle.lfg_unify.specs.Rows.{row_of, IsRow, AreRows, AreAscending, Widens}
use Rattle.lfg_unify.proofs.RowLaws.{row_at, after_write, row_of-same, row_of-other, rows_grown, ascending_set, rows_set, write_same, if_ok_weaker}
use Rattle.lfg_unify.proofs.table.Table.widen.Goals as goal

pub widen_row-requires-clause-ascends : goal.widen_row-requires-clause-ascends
widen_row-requires-clause-ascends c =
    let e = row_at (λ row. row.items) c.self.inside.rows.items c.args.self.now c.args.first c.index_mut.result.now c.self.view_is c.requires.first c.index_mut.ensures.value in
    let a = subst (λ (rows : List Row). AreAscending rows) c.self.view_is c.self.invariant in
    let n : length c.args.self.now ≡ c.len-count.result = omega (arith, ap length c.self.view_is, length-map c.self.inside.rows.items (λ row. row.items)) in
    subst (λ (r : Row). Ascends c.len-count.result 0 r) e (subst (λ (m : ℕ). Ascends m 0 (row_of c.args.self.now c.args.first)) n (a.each c.args.first))

pub widen_row-requires-clause-row : goal.widen_row-requires-clause-row
widen_row-requires-clause-row c =
    let e = row_at (λ row. row.items) c.self.inside.rows.items c.args.self.now c.args.first c.index_mut.result.now c.self.view_is c.requires.first c.index_mut.ensures.value in
    subst (λ (r : Row). IsRow c.args.contexts.now r) e (c.requires.rows.each c.args.first)

pub invariant_of-self : goal.invariant_of-self
invariant_of-self c =
    let w = after_write (λ row. row.items) c.self.inside.rows.items c.args.self.now c.args.first c.widen_row.new.row c.self.view_is in
    let a = subst (λ (rows : List Row). AreAscending rows) c.self.view_is c.self.invariant in
    let n : c.len-count.result ≡ length c.args.self.now = omega (arith, ap length c.self.view_is, length-map c.self.inside.rows.items (λ row. row.items)) in
    subst (λ (rows : List Row). AreAscending rows) (sym w)
    (ascending_set c.args.self.now c.args.first c.widen_row.new.row.items c.requires.first a (subst (λ (m : ℕ). Ascends m 0 c.widen_row.new.row.items) n c.widen_row.ensures.ascends))

pub returns-clause-rows : goal.returns-clause-rows
returns-clause-rows c =
    let w = after_write (λ row. row.items) c.self.inside.rows.items c.args.self.now c.args.first c.widen_row.new.row c.self.view_is in
    subst (λ (rows : List Row). AreRows c.widen_row.new.contexts rows) (sym w)
    (rows_set c.args.self.now c.args.first c.widen_row.new.row.items c.requires.first (rows_grown c.widen_row.ensures.grown c.requires.rows) c.widen_row.ensures.row)

pub returns-clause-others : goal.returns-clause-others
returns-clause-others c = λ x n.
    let w = after_write (λ row. row.items) c.self.inside.rows.items c.args.self.now c.args.first c.widen_row.new.row c.self.view_is in
    ap (λ rows. row_of rows x) w ∙ row_of-other c.args.self.now c.args.first x c.widen_row.new.row.items n

pub returns-clause-step : goal.returns-clause-step
returns-clause-step c =
    let w = after_write (λ row. row.items) c.self.inside.rows.items c.args.self.now c.args.first c.widen_row.new.row c.self.view_is in
    let e = row_at (λ row. row.items) c.self.inside.rows.items c.args.self.now c.args.first c.index_mut.result.now c.self.view_is c.requires.first c.index_mut.ensures.value in
    let s = ap (λ rows. row_of rows c.args.first) w ∙ row_of-same c.args.self.now c.args.first c.widen_row.new.row.items c.requires.first in
    subst (λ (r : Row). OnOk c.widen_row.result (Widens (row_of c.args.self.now c.args.first) c.args.second c.args.ctx.now r)) (sym s)
    (subst (λ (r : Row). OnOk c.widen_row.result (Widens r c.args.second c.args.ctx.now c.widen_row.new.row.items)) (sym e) c.widen_row.ensures.step)

pub returns-clause-kept : goal.returns-clause-kept
returns-clause-kept c =
    let w = after_write (λ row. row.items) c.self.inside.rows.items c.args.self.now c.args.first c.widen_row.new.row c.self.view_is in
    let e = row_at (λ row. row.items) c.self.inside.rows.items c.args.self.now c.args.first c.index_mut.result.now c.self.view_is c.requires.first c.index_mut.ensures.value in
    if_ok_weaker c.widen_row.result (λ changed. changed ≡ false → c.widen_row.new.row.items ≡ c.index_mut.result.now.items) _
    (λ changed f h. w ∙ write_same c.args.self.now c.args.first c.widen_row.new.row.items (f h ∙ sym e)) c.widen_row.ensures.kept
