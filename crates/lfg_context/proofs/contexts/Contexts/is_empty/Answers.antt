use Rattle.lfg_context.proofs.SeenLaws.{made_in, empty_in, some_in}
use Rattle.lfg_context.proofs.contexts.Contexts.is_empty.Goals as goal

pub returns-clause-none : goal.returns-clause-none
returns-clause-none c = λ h. let x = made_in c.args.self.now c.self.inside.diagram.nodes.entries c.self.inside.arities.items c.args.a.now c.self.view_is c.requires in empty_in c.self.inside.diagram.nodes.entries c.number.result c.args.a.now x.1 c.number.ensures h

pub returns-clause-some : goal.returns-clause-some
returns-clause-some c = λ h. let x = made_in c.args.self.now c.self.inside.diagram.nodes.entries c.self.inside.arities.items c.args.a.now c.self.view_is c.requires in some_in c.self.inside.diagram.nodes.entries _ _ c.number.result c.args.a.now c.self.invariant.0 x c.number.ensures h
