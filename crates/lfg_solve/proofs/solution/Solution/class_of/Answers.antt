use Rattle.std.proofs.Common.{◌≡◌, List, ℕ, Option, Some, None, length}
use Rattle.std.specs.Prelude.{IfNone}
use Rattle.std.specs.List.Sorted.{IsStrictlySortedBy}
use Rattle.lfg_terms.specs.Order.{node_cmp}
use Rattle.lfg_terms.specs.declared.node.Node.{Node}
use Rattle.lfg_terms.specs.declared.literal.Literal.{Literal}
use Rattle.lfg_model.specs.Lists.{In}
use Rattle.lfg_solve.specs.declared.solution.Solution.{Solution}
use Rattle.lfg_solve.specs.Solves.{ClassOf, Solves}
use Rattle.lfg_solve.proofs.Tables.{get_In}
use Rattle.lfg_solve.proofs.solution.Solution.class_of.Goals as goal

without_class : (s : Solution) (n : Node) (table : List Node) (o : Option ℕ) → table ≡ s.nodes.items
    → IfNone o (IsStrictlySortedBy node_cmp table → length s.classes ≡ length table → ¬ In n table) → IfNone o ((ls : List Literal) → Solves ls s → (class : ℕ) → ¬ ClassOf s n class)
without_class s n table None e h = λ ls y class k. (rw e at h) y.nodes.ascends y.covers (get_In s.nodes.items k.number n k.node)
without_class s n table (Some i) e h = tt

pub returns-clause-missing : goal.returns-clause-missing
returns-clause-missing c = without_class _ _ _ _ c.deref.ensures.value c.class_in.ensures.missing
