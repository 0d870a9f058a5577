-- What the solution of a list of literals is in numbers.
use Rattle.std.specs.Prelude.{◌≡◌, ◌↔◌, ℕ, List, length}
use Rattle.lfg_terms.specs.Order.{node_cmp}
use Rattle.lfg_terms.specs.declared.node.Node.{Node}
use Rattle.lfg_terms.specs.declared.literal.Literal.{Literal}
use Rattle.lfg_model.specs.declared.constant.Constant.{Constant}
use Rattle.lfg_model.specs.Lists.{In, Lists}
use Rattle.lfg_model.specs.Literals as literals
use Rattle.lfg_model.specs.Terms.{Name}
use Rattle.lfg_model.specs.Solve.{SameNode, HasArc, HasValue, HasMember}
use Rattle.lfg_solve.specs.declared.solution.Solution.{Solution}
use Rattle.lfg_solve.specs.Divides.{AreLeast}
use Rattle.lfg_solve.specs.Numbers.{HasClass}

-- the class of the node goes by the number
abbrev pub ClassOf : Solution → Node → ℕ → Type 0
ClassOf s = HasClass s.nodes.items s.classes

-- This is the solution of the literals. It has their nodes, in order and each once. A class goes by
-- the number of its least node; two nodes are the same exactly where their classes go by one number.
-- The arcs, values and members are those of the classes.
pub record Solves (ls : List Literal) (s : Solution) : Type 0 where
  pub nodes : Lists node_cmp (λ n. In n (literals.nodes ls)) s.nodes.items
  pub covers : length s.classes ≡ length s.nodes.items
  pub least : AreLeast s.classes
  pub same : (x z : Node) → SameNode ls x z ↔ ((k : ℕ) × ClassOf s x k × ClassOf s z k)
  pub arcs : (i : ℕ) (a : Name) (j : ℕ)
      → In (record { from = i; attribute = a; to = j }) s.arcs.items ↔ ((x : Node) × (t : Node) × ClassOf s x i × ClassOf s t j × HasArc ls x a t)
  pub values : (i : ℕ) (c : Constant)
      → In (record { class = i; constant = c }) s.values.items ↔ ((x : Node) × ClassOf s x i × HasValue ls x c)
  pub members : (m i : ℕ)
      → In (record { item = m; set = i }) s.members.items ↔ ((k : Node) × (x : Node) × ClassOf s k m × ClassOf s x i × HasMember ls x k)
