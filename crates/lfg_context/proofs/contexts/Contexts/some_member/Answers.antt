use Rattle.std.proofs.Common.{ℕ, List, subst, arith}
use Rattle.lfg_context.specs.Tables.{arity_in}
use Rattle.lfg_context.specs.Least.{IsLeastOf}
use Rattle.lfg_context.proofs.SeenLaws.{made_in, empty_in}
use Rattle.lfg_context.proofs.SomeMember.{blind_in, least_in}
use Rattle.lfg_context.proofs.contexts.Contexts.some_member.Goals as goal

pub returns-then-number-eq0-clause-none : goal.returns-then-number-eq0-clause-none
returns-then-number-eq0-clause-none c = let x = made_in c.args.self.now c.self.inside.diagram.nodes.entries c.self.inside.arities.items c.args.a.now c.self.view_is c.requires.made in empty_in c.self.inside.diagram.nodes.entries c.number-number.result c.args.a.now x.1 c.number-number.ensures (let z = c.if-number-eq0.true in grind arith)

pub least-requires-clause-within : goal.least-requires-clause-within
least-requires-clause-within c = let x = made_in c.args.self.now c.self.inside.diagram.nodes.entries c.self.inside.arities.items c.args.a.now c.self.view_is c.requires.made in omega (arith, x.0, c.number-number.ensures)

pub least-requires-clause-blind : goal.least-requires-clause-blind
least-requires-clause-blind c = λ e h.
    let x = made_in c.args.self.now c.self.inside.diagram.nodes.entries c.self.inside.arities.items c.args.a.now c.self.view_is c.requires.made in
    blind_in c.self.inside.diagram.nodes.entries c.args.a.now c.number-number.result e x.1 c.number-number.ensures (c.requires.over.depends.blind e (omega (arith, c.len.ensures.value)))

pub returns-clause-some : goal.returns-clause-some
returns-clause-some c =
    let x = made_in c.args.self.now c.self.inside.diagram.nodes.entries c.self.inside.arities.items c.args.a.now c.self.view_is c.requires.made in
    let P : List ℕ → Type 0 = λ v. IsLeastOf c.self.inside.diagram.nodes.entries (arity_in v) c.number-number.result c.len.result c.in_ok-least.least.items in
    least_in c.args.self.now c.self.inside.diagram.nodes.entries c.self.inside.arities.items c.args.space.now c.args.a.now c.number-number.result c.len.result c.in_ok-least.least.items c.self.view_is x.1 c.number-number.ensures c.len.ensures.value c.len.ensures.two c.requires.over (subst P c.as_slice-arities.ensures.value c.in_ok-least.ensures)
