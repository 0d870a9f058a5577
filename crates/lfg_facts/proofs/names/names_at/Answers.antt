use Rattle.std.proofs.Common.{List, sym, subst}
use Rattle.lfg_terms.specs.declared.node.Node.{Node}
use Rattle.lfg_context.specs.Sets.{AreMade}
use Rattle.lfg_context.specs.Telling.{Tells, InSome}
use Rattle.lfg_context.proofs.Growing.{grown_trans}
use Rattle.lfg_unify.specs.Closures.{Row}
use Rattle.lfg_unify.proofs.Closed.{row_sets, closure_sets_grown}
use Rattle.lfg_facts.specs.Adding.{Adds}
use Rattle.lfg_facts.specs.Naming.{Names, Holds, IsNodeName}
use Rattle.lfg_facts.proofs.NameLaws.{names_are}
use Rattle.lfg_facts.proofs.names.names_at.Goals as goal

pub push_nodes-requires-clause-row : goal.push_nodes-requires-clause-row
push_nodes-requires-clause-row c =
    let P : Row → Type 0 = λ r. AreMade c.named.new.contexts (λ e. e.1) r in
    subst P (sym c.equals.ensures.row) (row_sets c.args.place (closure_sets_grown (grown_trans c.in_ok-names.ensures.grown c.in_ok-valued.ensures.grown) c.requires.closure.is.made))

pub returns-clause-called : goal.returns-clause-called
returns-clause-called c =
    let T : Names → Type 0 = λ ns. Tells c.in_ok-valued.valued (InSome ns Holds) in
    let A : List Node → Type 0 = λ ns. Adds c.in_ok-names.names.items c.push_nodes.new.names.items (IsNodeName ns c.equals.result.now c.in_ok-valued.valued) in
    names_are c.requires.closure c.args.place c.in_ok-names.names.items c.push_nodes.new.names.items c.in_ok-valued.valued c.equals.result.now c.equals.ensures.row c.equals.ensures.ascends
    c.in_ok-names.ensures.adds (subst T c.as_slice.ensures.value c.in_ok-valued.ensures.tells) (subst A c.nodes.ensures c.in_ok-push_nodes.ensures.adds)
