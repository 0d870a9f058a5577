use Rattle.std.proofs.Common.{◌≡◌, length, map, take}
use Rattle.std.specs.List.{sum_by}
use Rattle.lfg_context.specs.Sets.{Assignment, AreMade, IsGrown}
use Rattle.lfg_instant.specs.Holding.{holding}
use Rattle.lfg_instant.specs.Junctions.{placed}
use Rattle.lfg_instant.specs.Literals.{key_literals, key_size, listed_of}
use Rattle.lfg_instant.specs.Picked.{HavePickedOf}
use Rattle.lfg_instant.proofs.literals.literals_of.Given as goal

abbrev pub invariant-loop-place : goal.invariant-loop-place
invariant-loop-place l = record {
  made : AreMade l.contexts (λ x. x.1) l.literals.items;
  grown : IsGrown l.fn.contexts l.contexts;
  picks : HavePickedOf l.contexts l.space;
  count : length l.literals.items ≡ sum_by (key_size l.grammar) (take l.place l.keys);
  each : (a : Assignment) → holding l.literals.items a ≡ listed_of (key_literals l.grammar l.tokens (map placed l.junctions) a) (take l.place l.keys) l.sets a;
}
