use Rattle.std.proofs.Common.{◌≡◌, ◌++◌, drop, map}
use Rattle.lfg_terms.specs.declared.literal.Literal.TheVariants as literal
use Rattle.lfg_context.specs.Sets.{AreMade}
use Rattle.lfg_instant.proofs.annotation.Instance.push_members.Given as goal

abbrev pub invariant-loop-node : goal.invariant-loop-node
invariant-loop-node l = record {
  each : l.literals.items ++ map (λ x. (literal.Member l.item x.0, x.1)) (drop l.node-index l.node-items) ≡ l.fn.literals.items ++ map (λ x. (literal.Member l.item x.0, x.1)) l.node-items;
  made : AreMade l.contexts (λ x. x.1) l.literals.items;
  found_made : AreMade l.contexts (λ x. x.1) l.node-items;
}
