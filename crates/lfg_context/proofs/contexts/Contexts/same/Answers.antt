use Rattle.lfg_context.proofs.SeenLaws.{made_in, same_in, differ_in}
use Rattle.lfg_context.proofs.contexts.Contexts.same.Goals as goal

pub returns-clause-same : goal.returns-clause-same
returns-clause-same c = λ h.
    let x = made_in c.args.self.now c.self.inside.diagram.nodes.entries c.self.inside.arities.items c.args.a.now c.self.view_is c.requires.a_made in
    let y = made_in c.args.self.now c.self.inside.diagram.nodes.entries c.self.inside.arities.items c.args.b.now c.self.view_is c.requires.b_made in
    same_in c.self.inside.diagram.nodes.entries c.number.result c.number-2.result c.args.a.now c.args.b.now x.1 y.1 c.number.ensures c.number-2.ensures h

pub returns-clause-different : goal.returns-clause-different
returns-clause-different c = λ h.
    let x = made_in c.args.self.now c.self.inside.diagram.nodes.entries c.self.inside.arities.items c.args.a.now c.self.view_is c.requires.a_made in
    let y = made_in c.args.self.now c.self.inside.diagram.nodes.entries c.self.inside.arities.items c.args.b.now c.self.view_is c.requires.b_made in
    differ_in c.self.inside.diagram.nodes.entries _ _ c.number.result c.number-2.result c.args.a.now c.args.b.now c.self.invariant.0 x y c.number.ensures c.number-2.ensures h
