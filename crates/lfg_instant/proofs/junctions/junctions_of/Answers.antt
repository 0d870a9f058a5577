use Rattle.std.proofs.Common.{List, subst}
use Rattle.lfg_terms.specs.declared.node.Edge.{Edge}
use Rattle.lfg_instant.specs.Collects.{Collects}
use Rattle.lfg_instant.specs.Junctions.{IsEntryJunction}
use Rattle.lfg_instant.proofs.JunctionsHold.{listed_are}
use Rattle.lfg_instant.proofs.junctions.junctions_of.Goals as goal

pub returns : goal.returns
returns c =
    let P : List Edge → Type 0 = λ es. Collects c.next_junctions.new.junctions.items c.entry_junctions.new.junctions.items (IsEntryJunction es c.args.lists.now) in
    listed_are c.args.grammar.now c.args.tokens.now c.requires.loaded c.args.chart.now.edges c.args.chart.now.forks c.requires.chart c.args.lists.now c.requires.lists c.args.keys.now c.requires.keys
    _ _ _ _ _ c.new-junctions.ensures.items c.in_ok-next_junctions.ensures (subst P c.edges.ensures c.in_ok-entry_junctions.ensures) c.in_ok-branch_junctions.ensures c.in_ok-listed.ensures
