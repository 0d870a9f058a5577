use Rattle.std.proofs.Common.{refl, arith}
use Rattle.lfg_chart.proofs.AgendaLaws.{agenda_more, found_more, agenda_same, found_same}
use Rattle.lfg_chart.proofs.kept.Agenda.add.Goals as goal

pub one-requires : goal.one-requires
one-requires c = omega (arith, c.requires.agenda.few)

pub add-requires-clause-within : goal.add-requires-clause-within
add-requires-clause-within c = omega (arith, c.requires.agenda.size)

pub returns-in_ok-push-clause-agenda : goal.returns-in_ok-push-clause-agenda
returns-in_ok-push-clause-agenda c =
    agenda_more c.args.table.now c.args.self.now (record { found = c.push.new.self; seen = c.add.new.self }) c.args.new c.one.result c.add.result c.requires.agenda c.requires.from c.requires.to c.one.ensures
    c.add.ensures c.in_ok-push.ensures.items

pub returns-in_ok-push-clause-found : goal.returns-in_ok-push-clause-found
returns-in_ok-push-clause-found c =
    found_more c.args.table.now c.args.self.now (record { found = c.push.new.self; seen = c.add.new.self }) c.args.new c.one.result c.add.result c.requires.agenda c.requires.from c.requires.to c.one.ensures
    c.add.ensures c.in_ok-push.ensures.items c.if-add.true

pub returns-else-add-clause-agenda : goal.returns-else-add-clause-agenda
returns-else-add-clause-agenda c =
    agenda_same c.args.table.now c.args.self.now (record { found = c.args.self.now.found; seen = c.add.new.self }) c.args.new c.one.result c.add.result c.requires.agenda c.requires.from c.requires.to c.one.ensures
    c.add.ensures refl c.if-add.false

pub returns-else-add-clause-found : goal.returns-else-add-clause-found
returns-else-add-clause-found c =
    found_same c.args.table.now c.args.self.now (record { found = c.args.self.now.found; seen = c.add.new.self }) c.args.new c.one.result c.add.result c.requires.agenda c.requires.from c.requires.to c.one.ensures
    c.add.ensures refl c.if-add.false
