use Rattle.std.proofs.Common.{◌≡◌, ◌≢◌, ◌<◌, ℕ, length, get_or, subst, sym, ◌∙◌, ap, arith}
use Rattle.std.specs.Prelude.{insert}
use Rattle.lfg_context.specs.Seen.{Set}
use Rattle.lfg_context.specs.Sets.{IsMade, member}
use Rattle.lfg_unify.specs.Closures.{Row, Ascends}
use Rattle.lfg_unify.specs.Rows.{count_before, IsRow, Widens}
use Rattle.lfg_unify.proofs.RowLaws.{row_same, row_set, row_insert, row_grown, is_row_set, is_row_insert, ascends_set, ascends_insert, count_before-le, differs_from}
use Rattle.lfg_unify.proofs.table.widen_row.Goals as goal
use Rattle.lfg_unify.proofs.table.widen_row.Goals.{then-at-len+else-here-place, else-at-len}

pub returns-then-same-clause-step : goal.returns-then-same-clause-step
returns-then-same-clause-step c =
    row_same c.args.row.now.items c.count_before-at.result c.args.place c.in_ok-wider.wider c.args.ctx.now c.index-here.result.now (omega arith) c.index-here.ensures c.if-here-place.true
    c.in_ok-wider.ensures.ok.members (c.same.ensures.same c.if-same.true)

pub returns-then-here-place-clause-ascends : goal.returns-then-here-place-clause-ascends
returns-then-here-place-clause-ascends c =
    ascends_set c.args.count 0 c.args.row.now.items c.count_before-at.result c.args.place c.in_ok-wider.wider c.index-here.result.now (omega arith) c.index-here.ensures c.if-here-place.true c.requires.ascends

pub returns-then-here-place-clause-row : goal.returns-then-here-place-clause-row
returns-then-here-place-clause-row c =
    is_row_set c.args.row.now.items c.count_before-at.result c.args.place c.in_ok-wider.wider c.args.ctx.now c.index-here.result.now (omega arith) c.index-here.ensures
    c.in_ok-wider.ensures.ok.made c.in_ok-wider.ensures.ok.members (row_grown c.in_ok-wider.ensures.grown c.requires.row)

pub returns-then-here-place-clause-step : goal.returns-then-here-place-clause-step
returns-then-here-place-clause-step c =
    row_set c.args.row.now.items c.count_before-at.result c.args.place c.in_ok-wider.wider c.args.ctx.now c.index-here.result.now (omega arith) c.index-here.ensures c.if-here-place.true
    c.in_ok-wider.ensures.ok.members

pub insert-requires : goal.insert-requires
insert-requires c = omega (arith, count_before-le c.deref.result.now c.args.place, c.count_before-at.ensures, ap length c.deref.ensures.value)

pub returns-clause-ascends : goal.returns-clause-ascends
returns-clause-ascends c =
    let row = c.args.row.now.items in
    let at : c.count_before-at.result ≡ count_before row c.args.place = c.count_before-at.ensures ∙ ap (λ r. count_before r c.args.place) c.deref.ensures.value in
    let e : c.insert.new.self.items ≡ insert row (count_before row c.args.place) (c.args.place, c.in_ok-share.field-0) = c.in_ok-insert.ensures.items ∙ ap (λ n. insert row n (c.args.place, c.in_ok-share.field-0)) at in
    let differs : (d : ℕ × Set) → count_before row c.args.place < length row → (get_or row (count_before row c.args.place) d).0 ≢ c.args.place = elim c.if-at-len.branch [
      | then-at-len+else-here-place w ↦ differs_from row (count_before row c.args.place) c.count_before-at.result c.args.place w.index-here.result.now at w.index-here.ensures w.if-here-place.false
      | else-at-len w ↦ λ d h. (let f = w.if-at-len.false in absurd (omega (arith, f, at, h)))
    ] in
    subst (λ (r : Row). Ascends c.args.count 0 r) (sym e) (ascends_insert c.args.count 0 row c.args.place c.in_ok-share.field-0 (omega arith) c.requires.within differs c.requires.ascends)

pub returns-clause-row : goal.returns-clause-row
returns-clause-row c =
    subst (λ (r : Row). IsRow c.args.contexts.now r) (sym c.in_ok-insert.ensures.items)
    (is_row_insert c.args.row.now.items c.count_before-at.result c.args.place c.in_ok-share.field-0 (subst (λ (z : Set). IsMade c.args.contexts.now z) (sym c.in_ok-share.ensures) c.requires.made)
    (let s = c.is_empty.ensures.some c.if-is_empty.false in (s.0, ap (λ z. member z s.0) c.in_ok-share.ensures ∙ s.1)) c.requires.row)

pub returns-clause-step : goal.returns-clause-step
returns-clause-step c =
    subst (λ (r : Row). Widens c.args.row.now.items c.args.place c.args.ctx.now r) (sym c.in_ok-insert.ensures.items)
    (row_insert c.args.row.now.items c.count_before-at.result c.args.place c.in_ok-share.field-0 c.args.ctx.now c.in_ok-share.ensures)
