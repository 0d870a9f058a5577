use Rattle.std.proofs.Common.{◌≡◌, ℕ, ◌-◌, ◌<◌, false, length, arith}
use Rattle.lfg_context.specs.Cubes.{in_cubes}
use Rattle.lfg_context.specs.Tables.{cubes_at, arity_in}
use Rattle.lfg_context.proofs.LeastLaws.{at_top, child_of_top, skipped, stepped, none_yet, last_some}
use Rattle.lfg_context.proofs.diagram.Diagram.least_step.Goals as goal

pub returns-then-top-choice : goal.returns-then-top-choice
returns-then-top-choice c = skipped c.args.self.now.nodes.entries _ c.args.choice c.args.number c.top.result c.requires.within c.requires.some (c.requires.later c.top.result c.top.ensures) c.if-top-choice.true c.top.ensures

pub bounds-arities-choice : goal.bounds-arities-choice
bounds-arities-choice c =
    let at = at_top c.args.self.now.nodes.entries (arity_in c.args.arities.now) (length c.args.arities.now) c.args.choice c.args.number c.top.result c.requires.table c.requires.within c.requires.small c.top.ensures c.if-top-choice.false in
    at.within

pub overflow_sub-last : goal.overflow_sub-last
overflow_sub-last c =
    let at = at_top c.args.self.now.nodes.entries (arity_in c.args.arities.now) (length c.args.arities.now) c.args.choice c.args.number c.top.result c.requires.table c.requires.within c.requires.small c.top.ensures c.if-top-choice.false in
    let two = at.test.2 in
    omega (arith, two)

pub returns-then-child-ne0 : goal.returns-then-child-ne0
returns-then-child-ne0 c =
    let at = at_top c.args.self.now.nodes.entries (arity_in c.args.arities.now) (length c.args.arities.now) c.args.choice c.args.number c.top.result c.requires.table c.requires.within c.requires.small c.top.ensures c.if-top-choice.false in
    let child = child_of_top c.args.self.now.nodes.entries (arity_in c.args.arities.now) (length c.args.arities.now) c.args.choice c.loop-alternative.alternative c.args.number c.child-child.result c.top.result c.if-top-choice.false c.top.ensures c.child-child.ensures in
    stepped c.args.self.now.nodes.entries (arity_in c.args.arities.now) (length c.args.arities.now) c.args.choice c.loop-alternative.alternative c.args.number c.child-child.result c.requires.table c.requires.room at (omega arith) (omega arith) child c.loop-alternative.invariant

pub loop-alternative-preserved : goal.loop-alternative-preserved
loop-alternative-preserved c =
    let child = child_of_top c.args.self.now.nodes.entries (arity_in c.args.arities.now) (length c.args.arities.now) c.args.choice c.loop-alternative.alternative c.args.number c.child-child.result c.top.result c.if-top-choice.false c.top.ensures c.child-child.ensures in
    none_yet c.args.self.now.nodes.entries (arity_in c.args.arities.now) (length c.args.arities.now) c.args.choice c.loop-alternative.alternative c.args.number c.child-child.result (omega arith) child (omega arith) c.loop-alternative.invariant

pub child-requires-clause-choice_in : goal.child-requires-clause-choice_in
child-requires-clause-choice_in c =
    let at = at_top c.args.self.now.nodes.entries (arity_in c.args.arities.now) (length c.args.arities.now) c.args.choice c.args.number c.top.result c.requires.table c.requires.within c.requires.small c.top.ensures c.if-top-choice.false in
    at.within

pub child-requires-clause-alternative : goal.child-requires-clause-alternative
child-requires-clause-alternative c =
    let at = at_top c.args.self.now.nodes.entries (arity_in c.args.arities.now) (length c.args.arities.now) c.args.choice c.args.number c.top.result c.requires.table c.requires.within c.requires.small c.top.ensures c.if-top-choice.false in
    let two = at.test.2 in
    omega (arith, two)

pub returns : goal.returns
returns c =
    let at = at_top c.args.self.now.nodes.entries (arity_in c.args.arities.now) (length c.args.arities.now) c.args.choice c.args.number c.top.result c.requires.table c.requires.within c.requires.small c.top.ensures c.if-top-choice.false in
    let two = at.test.2 in
    let last : ℕ = arity_in c.args.arities.now c.args.choice - 1 in
    let child = child_of_top c.args.self.now.nodes.entries (arity_in c.args.arities.now) (length c.args.arities.now) c.args.choice last c.args.number c.child.result c.top.result c.if-top-choice.false c.top.ensures c.child.ensures in
    let none : (a : ℕ → ℕ) → a c.args.choice < last → in_cubes (cubes_at c.args.self.now.nodes.entries c.args.number) a ≡ false = λ a h. c.loop-alternative.invariant a (omega arith) in
    let some = last_some c.args.self.now.nodes.entries (arity_in c.args.arities.now) (length c.args.arities.now) c.args.choice last c.args.number c.child.result c.requires.table c.requires.within c.requires.some (omega arith) child none in
    stepped c.args.self.now.nodes.entries (arity_in c.args.arities.now) (length c.args.arities.now) c.args.choice last c.args.number c.child.result c.requires.table c.requires.room at (omega arith) some child none
