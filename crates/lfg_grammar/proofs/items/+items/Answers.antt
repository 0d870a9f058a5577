use Rattle.std.proofs.Common.{rules, arith, List, subst}
use Rattle.std.proofs.lemmas.List.{take_all}
use Rattle.std.proofs.lemmas.Result.{err_from_is_err_and}
use Rattle.lfg_terms.specs.declared.draft.Rhs.{Rhs}
use Rattle.lfg_terms.specs.declared.draft.Rhs.TheViews.{the_lemmas}
use Rattle.lfg_model.specs.Loads.{LoadsItem, all_items_of}
use Rattle.lfg_model.specs.RightSides.{right_sides_of}
use Rattle.lfg_model.specs.Templates.{Each, end}
use Rattle.lfg_grammar.proofs.ItemLaws.{all_more, side_fails, side_without}
use Rattle.lfg_grammar.proofs.Loading.{item_in}
use Rattle.lfg_grammar.proofs.items.+items.Goals as goal

pub load_all_items-loop-side-init : goal.load_all_items-loop-side-init
load_all_items-loop-side-init t c = rw c.new-items.ensures.items end

pub load_all_items-load_items-requires : goal.load_all_items-load_items-requires
load_all_items-load_items-requires t c =
    (search (rules, the_lemmas), (c.requires.range, side_without c.args.sides.now c.side-item.result (item_in c.args.sides.now c.loop-side.side-index c.side-item.result c.loop-side-test.true c.side-item.is) c.requires.no_calls))

pub load_all_items-returns-in_err-part : goal.load_all_items-returns-in_err-part
load_all_items-returns-in_err-part t c =
    let p = err_from_is_err_and c.from_residual.result c.from_residual.ensures.1 in
    rw (p.1, p.2) (side_fails c.args.depth c.args.sides.now c.side-item.result c.in_err-part.field-0.0 (item_in c.args.sides.now c.loop-side.side-index c.side-item.result c.loop-side-test.true c.side-item.is) c.in_err-part.ensures)

pub load_all_items-loop-side-preserved : goal.load_all_items-loop-side-preserved
load_all_items-loop-side-preserved t c =
    all_more c.args.depth c.args.sides.now c.loop-side.side-index c.side-item.result c.loop-side.items.items c.in_ok-part.part.items c.append.new.self.items c.loop-side-test.true c.side-item.is c.in_ok-append.ensures.items c.loop-side.invariant c.in_ok-part.ensures

pub load_all_items-returns : goal.load_all_items-returns
load_all_items-returns t c =
    subst (λ (xs : List Rhs). Each (LoadsItem c.args.depth) (all_items_of (right_sides_of xs)) c.loop-side.items.items) (take_all c.loop-side.side-index c.args.sides.now (omega arith)) c.loop-side.invariant
