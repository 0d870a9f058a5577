use Rattle.std.proofs.Common.{◌≡◌, length}
use Rattle.lfg_context.specs.Sets.{AreMade, IsMade, IsGrown, HasSamePicks}
use Rattle.lfg_instant.specs.Annotations.{instance_of}
use Rattle.lfg_instant.proofs.StringLaws.{HasStrings}
use Rattle.lfg_instant.proofs.annotation.Instance.nodes.Given as goal

abbrev pub invariant-loop-number : goal.invariant-loop-number
invariant-loop-number l = record {
  each : HasStrings (instance_of l.self) l.des l.alternatives l.ctx l.number l.found.items;
  count : length l.found.items ≡ l.number;
  made : AreMade l.contexts (λ x. x.1) l.found.items;
  ctx_made : IsMade l.contexts l.ctx;
  alternatives_made : AreMade l.contexts (λ x. x) l.alternatives;
  grown : IsGrown l.fn.contexts l.contexts;
  same_picks : HasSamePicks l.fn.contexts l.contexts;
}
