use Rattle.std.proofs.Common.{arith}
use Rattle.lfg_context.specs.Tables.{Entry}
use Rattle.lfg_context.proofs.Children.{child_terminal, child_other, child_test, alternative_in}
use Rattle.lfg_context.proofs.diagram.Diagram.child.Goals as goal

pub returns-then-number-lt2 : goal.returns-then-number-lt2
returns-then-number-lt2 c = λ t top. child_terminal c.args.self.now.nodes.entries _ _ c.args.choice c.args.alternative t c.args.number (omega arith) c.requires.within c.requires.choice_in c.requires.room top

pub returns-then-test-choice : goal.returns-then-test-choice
returns-then-test-choice c = λ t top.
    let e : Entry = (c.node.result.0.now, c.node.result.1.now) in
    child_other c.args.self.now.nodes.entries _ _ c.args.choice c.args.alternative t c.args.number e c.requires.table (omega arith) c.requires.within c.node.ensures c.if-test-choice.true
    (c.requires.first t top) top

pub index-requires : goal.index-requires
index-requires c =
    let e : Entry = (c.node.result.0.now, c.node.result.1.now) in
    alternative_in c.args.self.now.nodes.entries _ _ c.args.choice c.args.alternative c.args.number e c.requires.table (omega arith) c.requires.within c.node.ensures c.if-test-choice.false c.requires.alternative

pub returns : goal.returns
returns c = λ t top.
    let e : Entry = (c.node.result.0.now, c.node.result.1.now) in
    child_test c.args.self.now.nodes.entries _ _ c.args.choice c.args.alternative t c.args.number c.index.result.now e c.requires.table (omega arith) c.requires.within c.node.ensures
    c.if-test-choice.false c.requires.alternative c.index.ensures
