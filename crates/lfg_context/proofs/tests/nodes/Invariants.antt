use Rattle.std.proofs.Common.{length}
use Rattle.lfg_model.specs.Lists.{In}
use Rattle.lfg_context.specs.Seen.{Set}
use Rattle.lfg_context.specs.Sets.{AreMade, DependsOnFirst}
use Rattle.lfg_context.proofs.tests.nodes.Given as goal

abbrev pub invariant-loop-place : goal.invariant-loop-place
invariant-loop-place l = record {
  made : AreMade l.contexts (λ x. x) l.met.items;
  depends : (x : Set) → In x l.met.items → DependsOnFirst (length l.space) x;
}

abbrev pub invariant-loop-alternative : goal.invariant-loop-alternative
invariant-loop-alternative l = record {
  made : AreMade l.contexts (λ x. x) l.met.items;
  depends : (x : Set) → In x l.met.items → DependsOnFirst (length l.space) x;
}
