use Rattle.std.proofs.Common.{◌∙◌, ◌==◌, ℕ, subst}
use Rattle.lfg_context.specs.Cubes.{taken}
use Rattle.lfg_context.specs.Sets.{arity_of, IsSetOf}
use Rattle.lfg_context.proofs.SeenLaws.{seen, grown_by, agrees_by, consistent_in, others_by, picks_by, set_in}
use Rattle.lfg_context.proofs.contexts.Contexts.pick.Goals as goal

pub pick-requires-clause-consistent : goal.pick-requires-clause-consistent
pick-requires-clause-consistent c =
    consistent_in c.args.self.now c.self.inside.diagram.nodes.entries c.self.inside.arities.items c.args.choice c.arity-arity.result _ c.self.view_is c.arity-arity.ensures.value c.requires.consistent

pub returns-in_err-number-clause-grown : goal.returns-in_err-number-clause-grown
returns-in_err-number-clause-grown c = grown_by c.args.self.now c.self.inside.diagram.nodes.entries c.pick.new.self.nodes.entries c.self.inside.arities.items c.pick.new.arities.items c.self.view_is (agrees_by c.self.inside.arities.items c.pick.new.arities.items c.args.choice c.arity-arity.result c.pick.ensures.others c.pick.ensures.kept (consistent_in c.args.self.now c.self.inside.diagram.nodes.entries c.self.inside.arities.items c.args.choice c.arity-arity.result _ c.self.view_is c.arity-arity.ensures.value c.requires.consistent)) c.pick.ensures.extends

pub returns-in_err-number-clause-others : goal.returns-in_err-number-clause-others
returns-in_err-number-clause-others c = others_by c.args.self.now c.self.inside.diagram.nodes.entries c.pick.new.self.nodes.entries c.self.inside.arities.items c.pick.new.arities.items c.args.choice c.self.view_is c.pick.ensures.others

pub returns-in_err-number-clause-picks : goal.returns-in_err-number-clause-picks
returns-in_err-number-clause-picks c = picks_by c.args.self.now c.self.inside.diagram.nodes.entries c.pick.new.self.nodes.entries c.self.inside.arities.items c.pick.new.arities.items c.args.space.now c.args.choice c.arity-arity.result c.self.view_is c.arity-arity.ensures.value c.pick.ensures.others c.pick.ensures.kept

pub returns-in_err-ctx-clause-grown : goal.returns-in_err-ctx-clause-grown
returns-in_err-ctx-clause-grown c = grown_by c.args.self.now c.self.inside.diagram.nodes.entries c.pick.new.self.nodes.entries c.self.inside.arities.items c.pick.new.arities.items c.self.view_is (agrees_by c.self.inside.arities.items c.pick.new.arities.items c.args.choice c.arity-arity.result c.pick.ensures.others c.pick.ensures.kept (consistent_in c.args.self.now c.self.inside.diagram.nodes.entries c.self.inside.arities.items c.args.choice c.arity-arity.result _ c.self.view_is c.arity-arity.ensures.value c.requires.consistent)) c.pick.ensures.extends

pub returns-in_err-ctx-clause-others : goal.returns-in_err-ctx-clause-others
returns-in_err-ctx-clause-others c = others_by c.args.self.now c.self.inside.diagram.nodes.entries c.pick.new.self.nodes.entries c.self.inside.arities.items c.pick.new.arities.items c.args.choice c.self.view_is c.pick.ensures.others

pub returns-in_err-ctx-clause-picks : goal.returns-in_err-ctx-clause-picks
returns-in_err-ctx-clause-picks c = picks_by c.args.self.now c.self.inside.diagram.nodes.entries c.pick.new.self.nodes.entries c.self.inside.arities.items c.pick.new.arities.items c.args.space.now c.args.choice c.arity-arity.result c.self.view_is c.arity-arity.ensures.value c.pick.ensures.others c.pick.ensures.kept

pub returns-clause-grown : goal.returns-clause-grown
returns-clause-grown c = grown_by c.args.self.now c.self.inside.diagram.nodes.entries c.pick.new.self.nodes.entries c.self.inside.arities.items c.pick.new.arities.items c.self.view_is (agrees_by c.self.inside.arities.items c.pick.new.arities.items c.args.choice c.arity-arity.result c.pick.ensures.others c.pick.ensures.kept (consistent_in c.args.self.now c.self.inside.diagram.nodes.entries c.self.inside.arities.items c.args.choice c.arity-arity.result _ c.self.view_is c.arity-arity.ensures.value c.requires.consistent)) c.pick.ensures.extends

pub returns-clause-others : goal.returns-clause-others
returns-clause-others c = others_by c.args.self.now c.self.inside.diagram.nodes.entries c.pick.new.self.nodes.entries c.self.inside.arities.items c.pick.new.arities.items c.args.choice c.self.view_is c.pick.ensures.others

pub returns-clause-picks : goal.returns-clause-picks
returns-clause-picks c = picks_by c.args.self.now c.self.inside.diagram.nodes.entries c.pick.new.self.nodes.entries c.self.inside.arities.items c.pick.new.arities.items c.args.space.now c.args.choice c.arity-arity.result c.self.view_is c.arity-arity.ensures.value c.pick.ensures.others c.pick.ensures.kept

pub returns-clause-picked : goal.returns-clause-picked
unfolding arity_of
returns-clause-picked c = c.in_ok-number.ensures.picked ∙ c.arity-arity.ensures.value

pub returns-clause-ok : goal.returns-clause-ok
returns-clause-ok c =
    let P : ℕ → Type 0 = λ v. IsSetOf (seen c.pick.new.self.nodes.entries c.pick.new.arities.items) c.in_ok-ctx.ctx (λ a. taken a c.args.choice v == c.args.alt) in
    subst P c.arity-arity.ensures.value
    (set_in c.pick.new.self.nodes.entries c.pick.new.arities.items c.in_ok-number.number c.in_ok-ctx.ctx (λ a. taken a c.args.choice c.arity-arity.result == c.args.alt) c.pick.ensures.table c.in_ok-number.ensures.within c.in_ok-ctx.ensures c.in_ok-number.ensures.members)
