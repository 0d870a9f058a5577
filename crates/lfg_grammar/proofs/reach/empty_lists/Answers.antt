use Rattle.std.proofs.Common.{List, Vec, Global, ℕ, ◌∷◌, [], length, ap, sym, subst, arith}
use Rattle.std.proofs.lemmas.List.{length-append}
use Rattle.lfg_rulegraph.specs.Followers.{AreEmpty}
use Rattle.lfg_rulegraph.proofs.FollowerLaws.{empty_pushed}
use Rattle.lfg_grammar.proofs.reach.empty_lists.Goals as goal

pub loop-place-preserved : goal.loop-place-preserved
loop-place-preserved c = record {
  length = omega (arith, c.loop-place.invariant.length, ap length c.in_ok-push.ensures.items, length-append c.loop-place.lists.items (c.new.result ∷ []));
  empty = subst (λ (lists : List (Vec ℕ Global)). AreEmpty lists) (sym c.in_ok-push.ensures.items) (empty_pushed c.loop-place.lists.items c.new.result c.new.ensures.items c.loop-place.invariant.empty);
}
