use Rattle.std.proofs.Common.{◌≡◌, Option, Some, None, get_or, sym, subst}
use Rattle.lfg_context.specs.Seen.{Set}
use Rattle.lfg_store.specs.Facts.{Entries, context_of}
use Rattle.lfg_store.proofs.Placing.{found_at, missing_at}
use Rattle.lfg_store.proofs.store.FactStore.get.Goals as goal

pub returns-in-Ok : goal.returns-in-Ok
returns-in-Ok c =
    let P : Entries → Type 0 = λ v. Some (get_or c.entries-entries.result.now c.in-Ok.place c.index-entries-place.result).1 ≡ context_of v c.args.fact.now in
    subst P c.entries-entries.ensures.same (sym (found_at c.entries-entries.result.now c.args.fact.now c.in-Ok.place c.index-entries-place.result c.entries-entries.ensures.store c.in-Ok.ensures.found))

pub returns-in-Err : goal.returns-in-Err
returns-in-Err c =
    let P : Entries → Type 0 = λ v. None ≡ context_of v c.args.fact.now in
    subst P c.entries-entries.ensures.same (sym (missing_at c.entries-entries.result.now c.args.fact.now c.in-Err.field-0 c.entries-entries.ensures.store c.in-Err.ensures.missing))
