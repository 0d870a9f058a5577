-- Facts without new nodes, which can be written without a table, and the nodes that give such facts.
use Rattle.std.specs.Prelude.{◌≡◌, List, [], All}
use Rattle.lfg_terms.specs.declared.node.Edge.{Edge}
use Rattle.lfg_terms.specs.declared.node.Node as node
use Rattle.lfg_terms.specs.declared.node.Node.{Node}
use Rattle.lfg_terms.specs.declared.node.Fact.{Fact}
use Rattle.lfg_terms.specs.FactTexts.{IsListedArg}
use Rattle.lfg_model.specs.Terms.{Path}
use Rattle.lfg_solve.specs.Found.{EachOf}

abbrev pub IsPrintable : Fact → Type 0
IsPrintable fact = All (IsListedArg []) fact.args

abbrev pub ArePrintable : List Fact → Type 0
ArePrintable facts = All IsPrintable facts

-- a path leads to the node from an edge: it is no new node of transfer
pub record IsEdgeNode (n : Node) : Type 0 where
  pub edge : Edge
  pub path : Path
  pub is : n ≡ node.At edge path

-- all nodes are such nodes
abbrev pub AreEdgeNodes : List Node → Type 0
AreEdgeNodes nodes = EachOf IsEdgeNode nodes
