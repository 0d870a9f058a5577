use Rattle.std.proofs.Common.{length, arith}
use Rattle.lfg_context.specs.Tables.{arity_in}
use Rattle.lfg_context.proofs.SeenLaws.{made_in, arity_is}
use Rattle.lfg_context.proofs.FirstLaws.{constant_in, first_in, tests_seen}
use Rattle.lfg_context.proofs.contexts.Contexts.first.Goals as goal

pub returns-then-number-lt2-clause-none : goal.returns-then-number-lt2-clause-none
returns-then-number-lt2-clause-none c = let x = made_in c.args.self.now c.self.inside.diagram.nodes.entries c.self.inside.arities.items c.args.a.now c.self.view_is c.requires in constant_in c.self.inside.diagram.nodes.entries c.args.a.now x.1 (omega (arith, c.number-number.ensures))

pub top-requires : goal.top-requires
top-requires c = let x = made_in c.args.self.now c.self.inside.diagram.nodes.entries c.self.inside.arities.items c.args.a.now c.self.view_is c.requires in omega (arith, x.0, c.number-number.ensures)

pub returns-clause-some : goal.returns-clause-some
returns-clause-some c =
    let x = made_in c.args.self.now c.self.inside.diagram.nodes.entries c.self.inside.arities.items c.args.a.now c.self.view_is c.requires in
    first_in c.self.inside.diagram.nodes.entries _ _ c.top.result c.args.a.now x.1
    (tests_seen c.self.inside.diagram.nodes.entries _ _ c.top.result c.number-number.result c.args.a.now c.self.invariant.0 c.number-number.ensures (omega arith) x.0 c.top.ensures)

pub returns-clause-picked : goal.returns-clause-picked
returns-clause-picked c =
    let x = made_in c.args.self.now c.self.inside.diagram.nodes.entries c.self.inside.arities.items c.args.a.now c.self.view_is c.requires in
    let at = tests_seen c.self.inside.diagram.nodes.entries (arity_in c.self.inside.arities.items) (length c.self.inside.arities.items) c.top.result c.number-number.result c.args.a.now c.self.invariant.0 c.number-number.ensures (omega arith) x.0 c.top.ensures in
    let two = at.test.2 in
    let is = arity_is c.args.self.now c.self.inside.diagram.nodes.entries c.self.inside.arities.items c.top.result c.self.view_is in
    omega (arith, two, is)
