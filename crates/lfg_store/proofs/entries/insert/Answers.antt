use Rattle.std.proofs.Common.{refl, ap, ◌∙◌}
use Rattle.std.specs.Prelude.{insert}
use Rattle.lfg_store.proofs.Growing.{entries_insert}
use Rattle.lfg_store.proofs.Placing.{inserted_at, nothing_added_at}
use Rattle.lfg_store.proofs.entries.insert.Goals as goal

pub returns-then-is_empty-clause-ok : goal.returns-then-is_empty-clause-ok
returns-then-is_empty-clause-ok c =
    nothing_added_at c.args.entries.now.items c.args.fact.now c.args.place c.requires.store c.requires.gap c.args.entries.now.items c.args.ctx.now (c.if-is_empty.ensures.none refl) refl

pub returns-clause-ok : goal.returns-clause-ok
returns-clause-ok c =
    let s = c.if-is_empty.ensures.some refl in
    inserted_at c.args.entries.now.items c.args.fact.now c.args.place c.requires.store c.requires.gap c.insert.new.self.items c.args.ctx.now c.in_ok-ctx.ctx c.in_ok-ctx.ensures
    (record { assignment = s.0; has = s.1 }) c.requires.room (c.in_ok-insert.ensures.items ∙ ap (λ v. insert c.args.entries.now.items c.args.place (v, c.in_ok-ctx.ctx)) c.in_ok-fact.ensures.cases)

pub returns-clause-made : goal.returns-clause-made
returns-clause-made c = rw (c.in_ok-insert.ensures.items, c.in_ok-ctx.ensures) (entries_insert c.args.place (c.in_ok-fact.fact, c.args.ctx.now) c.requires.made c.requires.ctx_made)
