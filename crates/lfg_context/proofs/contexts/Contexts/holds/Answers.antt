use Rattle.std.proofs.Common.{◌∙◌, get_or, ap, sym, arith}
use Rattle.lfg_context.specs.Sets.{Assignment}
use Rattle.lfg_context.specs.Cubes.{in_cubes}
use Rattle.lfg_context.specs.Tables.{cubes_at}
use Rattle.lfg_context.proofs.SeenLaws.{made_in, member_in}
use Rattle.lfg_context.proofs.contexts.Contexts.holds.Goals as goal

pub holds-requires-clause-within : goal.holds-requires-clause-within
holds-requires-clause-within c = let x = made_in c.args.self.now c.self.inside.diagram.nodes.entries c.self.inside.arities.items c.args.a.now c.self.view_is c.requires in omega (arith, x.0, c.number.ensures)

pub returns : goal.returns
returns c =
    let x = made_in c.args.self.now c.self.inside.diagram.nodes.entries c.self.inside.arities.items c.args.a.now c.self.view_is c.requires in
    let b : Assignment = λ k. get_or c.args.assignment.now k 0 in
    c.holds.ensures ∙ ap (λ n. in_cubes (cubes_at c.self.inside.diagram.nodes.entries n) b) c.number.ensures ∙ sym (member_in c.self.inside.diagram.nodes.entries c.args.a.now b x.1)
