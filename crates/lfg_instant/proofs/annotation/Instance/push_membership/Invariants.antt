use Rattle.std.proofs.Common.{◌≡◌, ◌+◌, ◌*◌, List, length, drop}
use Rattle.lfg_terms.specs.declared.literal.Literal.{Literal}
use Rattle.lfg_terms.specs.declared.literal.Literal.TheVariants as literal
use Rattle.lfg_model.specs.Places.{path_places}
use Rattle.lfg_model.specs.Resolve.{node_of}
use Rattle.lfg_context.specs.Seen.{Set}
use Rattle.lfg_context.specs.Sets.{AreMade, IsGrown, HasSamePicks}
use Rattle.lfg_instant.specs.Annotations.{instance_of, ArePicksMade}
use Rattle.lfg_packed.specs.Sizes.{string_count}
use Rattle.lfg_instant.proofs.AppendLaws.{AppendsEach}
use Rattle.lfg_instant.proofs.annotation.Instance.push_membership.Given as goal

abbrev pub invariant-loop-at : goal.invariant-loop-at
invariant-loop-at l = record {
  each : (new : List (Literal × Set)) → AppendsEach (path_places l.set.path) (λ n ps. literal.Member n (node_of (instance_of l.self) l.set ps)) l.others (drop l.at-index l.at-items) l.literals.items new → AppendsEach (path_places l.set.path) (λ n ps. literal.Member n (node_of (instance_of l.self) l.set ps)) l.others l.at-items l.fn.literals.items new;
  count : length l.literals.items ≡ length l.fn.literals.items + l.at-index * string_count l.set.path;
  made : AreMade l.contexts (λ x. x.1) l.literals.items;
  found_made : AreMade l.contexts (λ x. x.1) l.at-items;
  others_made : ArePicksMade l.contexts l.others;
  grown : IsGrown l.fn.contexts l.contexts;
  same_picks : HasSamePicks l.fn.contexts l.contexts;
}
