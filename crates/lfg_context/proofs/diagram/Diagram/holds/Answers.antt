use Rattle.std.proofs.Common.{◌≡◌, ◌∙◌, arith, get_or}
use Rattle.lfg_context.specs.Cubes.{taken}
use Rattle.lfg_context.specs.Tables.{arity_in}
use Rattle.lfg_context.proofs.Combining.{tests_top, top_unique}
use Rattle.lfg_context.proofs.diagram.Diagram.holds.Goals as goal

pub bounds-arities-choice : goal.bounds-arities-choice
bounds-arities-choice c = let at = tests_top c.args.self.now.nodes.entries _ _ c.top-choice.result c.loop-n.n c.requires.table (omega arith) c.loop-n.invariant.within c.top-choice.ensures in at.within

pub overflow_sub-last : goal.overflow_sub-last
overflow_sub-last c = let at = tests_top c.args.self.now.nodes.entries _ _ c.top-choice.result c.loop-n.n c.requires.table (omega arith) c.loop-n.invariant.within c.top-choice.ensures in let two = at.test.2 in omega (arith, two)

pub child-n-requires-clause-choice_in : goal.child-n-requires-clause-choice_in
child-n-requires-clause-choice_in c = let at = tests_top c.args.self.now.nodes.entries _ _ c.top-choice.result c.loop-n.n c.requires.table (omega arith) c.loop-n.invariant.within c.top-choice.ensures in at.within

pub child-n-requires-clause-alternative : goal.child-n-requires-clause-alternative
child-n-requires-clause-alternative c = let at = tests_top c.args.self.now.nodes.entries _ _ c.top-choice.result c.loop-n.n c.requires.table (omega arith) c.loop-n.invariant.within c.top-choice.ensures in let two = at.test.2 in omega (arith, two, c.min.ensures)

pub child-n-requires-clause-first : goal.child-n-requires-clause-first
child-n-requires-clause-first c = λ t top. let e = top_unique c.args.self.now.nodes.entries c.loop-n.n c.top-choice.result t c.loop-n.invariant.within c.top-choice.ensures top in omega arith

pub loop-n-preserved : goal.loop-n-preserved
loop-n-preserved c =
    let child = c.child-n.ensures c.top-choice.result c.top-choice.ensures in
    let take : taken (λ k. get_or c.args.assignment.now k 0) c.top-choice.result (arity_in c.args.arities.now c.top-choice.result) ≡ c.min.result = omega (arith, c.min.ensures, c.named.ensures) in
    record { within = child.number; same = child.members (λ k. get_or c.args.assignment.now k 0) take ∙ c.loop-n.invariant.same }
