use Rattle.std.proofs.Common.{ℕ, List, [], ◌∷◌, ◌++◌, sym, subst}
use Rattle.std.specs.Ordering.{nat_cmp}
use Rattle.lfg_model.specs.Lists.{In, Lists}
use Rattle.lfg_rulegraph.specs.Followers.{AreSets, none}
use Rattle.lfg_rulegraph.proofs.FollowerLaws.{sets_more}
use Rattle.lfg_rulegraph.proofs.graphs.sorted_sets.Goals as goal

pub loop-list-init : goal.loop-list-init
loop-list-init c = subst (λ (sets : List (List ℕ)). AreSets [] sets) (sym c.new-sets.ensures.items) none

pub loop-list-preserved : goal.loop-list-preserved
loop-list-preserved c =
    let set = subst (λ (ps : List ℕ). Lists nat_cmp (λ p. In p c.in-Some.list.items) ps) (sym c.in_ok-new.ensures) c.in_ok-sorted_set.ensures in
    subst (λ (sets : List (List ℕ)). AreSets (c.loop-list.yielded ++ c.in-Some.list ∷ []) sets) (sym {A = List (List ℕ)} c.in_ok-push.ensures.items) (sets_more c.in-Some.list c.in_ok-new.field-0 c.loop-list.invariant set)
