use Rattle.std.proofs.Common.{refl, sym, subst}
use Rattle.lfg_store.specs.Edits.{IsEdited}
use Rattle.lfg_store.specs.declared.edit.Edit.{Edit}
use Rattle.lfg_store.proofs.Placing.{nothing_removed_at}
use Rattle.lfg_store.proofs.entries.edit_entries.Goals as goal

pub returns-in-Remove-edit-clause-ok : goal.returns-in-Remove-edit-clause-ok
returns-in-Remove-edit-clause-ok c =
    subst (λ (v : Edit). IsEdited v c.args.entries.now.items c.args.fact.now c.args.ctx.now c.args.entries.now.items) (sym c.in-Remove-edit.is)
    (nothing_removed_at c.args.entries.now.items c.args.fact.now c.in-Err.place c.requires.store (rw c.deref.ensures.value at c.in-Err.ensures.missing) c.args.entries.now.items c.args.ctx.now refl)
