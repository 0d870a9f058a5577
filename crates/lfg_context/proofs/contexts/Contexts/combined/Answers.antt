use Rattle.std.proofs.Common.{ℕ, List, length, subst, arith}
use Rattle.lfg_context.specs.Tables.{IsTable, arity_in}
use Rattle.lfg_context.proofs.SeenLaws.{made_in, grown_in, picks_in, combined_in}
use Rattle.lfg_context.proofs.contexts.Contexts.combined.Goals as goal

pub combine-requires-clause-left_in : goal.combine-requires-clause-left_in
combine-requires-clause-left_in c = let x = made_in c.args.self.now c.self.inside.diagram.nodes.entries c.self.inside.arities.items c.args.a.now c.self.view_is c.requires.a_made in omega (arith, x.0, c.number.ensures)

pub combine-requires-clause-right_in : goal.combine-requires-clause-right_in
combine-requires-clause-right_in c = let y = made_in c.args.self.now c.self.inside.diagram.nodes.entries c.self.inside.arities.items c.args.b.now c.self.view_is c.requires.b_made in omega (arith, y.0, c.number-2.ensures)

pub returns-in_err-number-clause-grown : goal.returns-in_err-number-clause-grown
returns-in_err-number-clause-grown c = grown_in c.args.self.now c.self.inside.diagram.nodes.entries c.combine.new.self.nodes.entries c.self.inside.arities.items c.self.view_is c.combine.ensures.extends

pub returns-in_err-number-clause-picks : goal.returns-in_err-number-clause-picks
returns-in_err-number-clause-picks c = picks_in c.args.self.now c.self.inside.diagram.nodes.entries c.combine.new.self.nodes.entries c.self.inside.arities.items c.self.view_is

pub returns-in_err-ctx-clause-grown : goal.returns-in_err-ctx-clause-grown
returns-in_err-ctx-clause-grown c = grown_in c.args.self.now c.self.inside.diagram.nodes.entries c.combine.new.self.nodes.entries c.self.inside.arities.items c.self.view_is c.combine.ensures.extends

pub returns-in_err-ctx-clause-picks : goal.returns-in_err-ctx-clause-picks
returns-in_err-ctx-clause-picks c = picks_in c.args.self.now c.self.inside.diagram.nodes.entries c.combine.new.self.nodes.entries c.self.inside.arities.items c.self.view_is

pub returns-clause-grown : goal.returns-clause-grown
returns-clause-grown c = grown_in c.args.self.now c.self.inside.diagram.nodes.entries c.combine.new.self.nodes.entries c.self.inside.arities.items c.self.view_is c.combine.ensures.extends

pub returns-clause-picks : goal.returns-clause-picks
returns-clause-picks c = picks_in c.args.self.now c.self.inside.diagram.nodes.entries c.combine.new.self.nodes.entries c.self.inside.arities.items c.self.view_is

pub returns-clause-ok : goal.returns-clause-ok
returns-clause-ok c =
    let es = c.self.inside.diagram.nodes.entries in
    let x = made_in c.args.self.now c.self.inside.diagram.nodes.entries c.self.inside.arities.items c.args.a.now c.self.view_is c.requires.a_made in
    let y = made_in c.args.self.now c.self.inside.diagram.nodes.entries c.self.inside.arities.items c.args.b.now c.self.view_is c.requires.b_made in
    let P : List ℕ → Type 0 = λ v. IsTable c.combine.new.self.nodes.entries (arity_in v) (length v) in
    combined_in es c.combine.new.self.nodes.entries c.self.inside.arities.items _ _ c.number.result c.number-2.result c.in_ok-number.number c.args.op c.args.a.now c.args.b.now c.in_ok-ctx.ctx
    (subst P c.as_slice.ensures.value c.combine.ensures.table) c.in_ok-number.ensures.ok c.number.ensures c.number-2.ensures x.1 y.1 c.in_ok-ctx.ensures
