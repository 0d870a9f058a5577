use Rattle.std.proofs.Common.{drop}
use Rattle.lfg_model.specs.Terms.{annotation_of, branches_from}
use Rattle.lfg_context.specs.Sets.{AreMade, IsMade, IsGrown, HasSamePicks}
use Rattle.lfg_instant.specs.Annotations.{instance_of, ArePicksMade}
use Rattle.lfg_instant.proofs.WalkLaws.{AreLeft, AreBranchesLeft}
use Rattle.lfg_instant.proofs.annotation.Instance.+instances.Given as goal

abbrev pub invariant-push_instances-loop-schema : goal.invariant-push_instances-loop-schema
invariant-push_instances-loop-schema l = record {
  way : AreLeft (instance_of l.self) (annotation_of l.schemata) l.fn.index l.fn.picks l.ctx l.fn.literals.items (annotation_of (drop l.schema-index l.schemata)) l.rest l.next l.literals.items;
  made : AreMade l.contexts (λ x. x.1) l.literals.items;
  ctx_made : IsMade l.contexts l.ctx;
  rest_made : ArePicksMade l.contexts l.rest;
  grown : IsGrown l.fn.contexts l.contexts;
  same_picks : HasSamePicks l.fn.contexts l.contexts;
}

abbrev pub invariant-push_schema-loop-number : goal.invariant-push_schema-loop-number
invariant-push_schema-loop-number l = record {
  way : AreBranchesLeft (instance_of l.self) (branches_from l.branch-items) l.fn.index l.alternatives l.initial.rest l.ctx l.fn.literals.items (branches_from (drop l.number l.branch-items)) (drop l.number l.alternatives) l.rest l.next l.literals.items;
  made : AreMade l.contexts (λ x. x.1) l.literals.items;
  ctx_made : IsMade l.contexts l.ctx;
  alternatives_made : AreMade l.contexts (λ x. x) l.alternatives;
  rest_made : ArePicksMade l.contexts l.rest;
  grown : IsGrown l.fn.contexts l.contexts;
  same_picks : HasSamePicks l.fn.contexts l.contexts;
}
