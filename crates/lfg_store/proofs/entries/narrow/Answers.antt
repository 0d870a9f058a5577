use Rattle.std.proofs.Common.{refl}
use Rattle.lfg_context.specs.Sets.{AreMade}
use Rattle.lfg_context.proofs.Growing.{are_made_grown}
use Rattle.lfg_store.specs.Facts.{HasMember}
use Rattle.lfg_store.proofs.Growing.{entries_remove}
use Rattle.lfg_store.proofs.Placing.{is_narrowed, is_dropped}
use Rattle.lfg_store.proofs.entries.narrow.Goals as goal

pub returns-then-is_empty-clause-ok : goal.returns-then-is_empty-clause-ok
returns-then-is_empty-clause-ok c =
    is_dropped c.args.entries.now.items c.args.fact.now c.in_ok-fact.fact c.args.place c.index.result.now c.args.ctx.now c.in_ok-narrower.narrower c.remove.new.self.items
    c.requires.store c.requires.at c.index.ensures c.in_ok-fact.ensures.cases c.in_ok-narrower.ensures.ok.members (c.if-is_empty.ensures.none refl) c.remove.ensures.items

pub returns-then-is_empty-clause-made : goal.returns-then-is_empty-clause-made
returns-then-is_empty-clause-made c = rw c.remove.ensures.items (entries_remove c.args.place (are_made_grown c.in_ok-narrower.ensures.grown c.requires.made))

pub returns-clause-ok : goal.returns-clause-ok
returns-clause-ok c =
    let s = c.if-is_empty.ensures.some refl in
    is_narrowed c.args.entries.now.items c.args.fact.now c.in_ok-fact.fact c.args.place c.index.result.now c.args.ctx.now c.in_ok-narrower.narrower _
    c.requires.store c.requires.at c.index.ensures c.in_ok-fact.ensures.cases c.in_ok-narrower.ensures.ok.members (record { assignment = s.0; has = s.1 }) refl
