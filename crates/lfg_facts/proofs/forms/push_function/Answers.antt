use Rattle.std.proofs.Common.{◌∷◌, [], ◌++◌, subst, sym}
use Rattle.lfg_context.specs.Seen.{Set}
use Rattle.lfg_facts.specs.Stating.{Entries, AreEntries, function_fact}
use Rattle.lfg_facts.proofs.Classes.{entries_push}
use Rattle.lfg_facts.proofs.AddLaws.{adds_same}
use Rattle.lfg_facts.proofs.forms.push_function.Goals as goal

pub returns-clause-facts : goal.returns-clause-facts
returns-clause-facts c =
    let P : Entries → Type 0 = λ es. AreEntries c.args.contexts.now es in
    let Q : Set → Type 0 = λ z. AreEntries c.args.contexts.now (c.args.facts.now.items ++ (c.in_ok-fact.fact, z) ∷ []) in
    subst P (sym c.in_ok-push.ensures.items)
    (subst Q (sym c.in_ok-share.ensures) (entries_push (c.in_ok-fact.fact, c.args.here.now) c.requires.facts c.requires.here (c.is_empty.ensures.some c.if-is_empty.false)))

pub returns-clause-adds : goal.returns-clause-adds
returns-clause-adds c =
    adds_same c.args.facts.now.items c.push.new.self.items c.in_ok-fact.fact (function_fact c.args.relation.now c.args.name.now c.args.number c.args.function.now) c.in_ok-share.field-0 c.args.here.now
    c.in_ok-push.ensures.items c.in_ok-fact.ensures c.in_ok-share.ensures
