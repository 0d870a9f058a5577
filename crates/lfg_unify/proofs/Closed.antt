-- What crates above need of a closure. They cite these lemmas.
use Rattle.std.proofs.Common.{◌≡◌, ℕ, zero, suc, ◌<◌, ◌≤◌, Bool, true, false, List, [], ◌∷◌, length, refl, sym, subst, arith, inl, inr, ◌⊎◌}
use Rattle.std.specs.Prelude.{◌↔◌, ◌==◌, if◌then◌else◌, slice_index_or}
use Rattle.lfg_terms.specs.declared.node.Node.{Node}
use Rattle.lfg_terms.specs.declared.literal.Literal.{Literal}
use Rattle.lfg_model.specs.declared.constant.Constant.{Constant}
use Rattle.lfg_model.specs.Lists.{In, here, later}
use Rattle.lfg_model.specs.Terms.{Name}
use Rattle.lfg_model.specs.Solve.{Solution, solution, AreAlike}
use Rattle.lfg_model.proofs.ListLaws.{In-at, In-nil}
use Rattle.lfg_model.proofs.SolutionLaws.{IsOfClasses, solution_of_classes}
use Rattle.lfg_context.specs.Seen.{Set, Known}
use Rattle.lfg_context.specs.Sets.{Assignment, member, IsMade, IsGrown, AreMade}
use Rattle.lfg_context.specs.Telling.{Excludes}
use Rattle.lfg_context.proofs.Growing.{made_grown, are_made_grown, grown_refl, grown_trans, same_picks_refl, same_picks_trans}
use Rattle.lfg_context.proofs.Telling.{excludes_of}
use Rattle.lfg_unify.specs.Closures.{Row, Closed, place_in, context_in, equal_at, equal_of, closure_at, AreClosureSets, IsClosureOf}
use Rattle.lfg_unify.specs.Holding.{holding}
use Rattle.lfg_model.specs.Solve.{Clash}
use Rattle.lfg_unify.proofs.SweepLaws.{In-holding, holding_In}

-- the sets of a closure stay made while the contexts grow
pub closure_sets_grown : {c d : Known} {k : Closed} → IsGrown c d → AreClosureSets c k → AreClosureSets d k
closure_sets_grown g m = record {
  rows = λ row i. are_made_grown g (m.rows row i);
  arcs = are_made_grown g m.arcs;
  values = are_made_grown g m.values;
  members = are_made_grown g m.members;
  clash = made_grown g m.clash;
  empty = made_grown g m.empty;
}

-- a closure of literals stays one while the contexts grow
pub closure_grown : {c d : Known} {literals : List (Literal × Set)} {k : Closed} → IsGrown c d → IsClosureOf c literals k → IsClosureOf d literals k
closure_grown g m = record {
  made = closure_sets_grown g m.made;
  nodes = m.nodes;
  none = m.none;
  some = m.some;
  there = m.there;
  alike = m.alike;
  clash = m.clash;
}

in_row_made : {c : Known} (none : Set) (row : Row) (j : ℕ) → IsMade c none → ((r : ℕ × Set) → In r row → IsMade c r.1) → IsMade c (context_in none row j)
in_row_made {c} none [] j m all = m
in_row_made {c} none (r ∷ rs) j m all = by_place (r.0 == j) (in_row_made none rs j m (λ x i. all x (later i)))
  where
    by_place : (b : Bool) → IsMade c (context_in none rs j) → IsMade c (if b then r.1 else context_in none rs j)
    by_place true h = all r here
    by_place false h = h

lt_cases : (m n : ℕ) → (m < n) ⊎ (n ≤ m)
lt_cases m n = grind arith

get_beyond : {X : Type 0} (xs : List X) (i : ℕ) (d : X) → length xs ≤ i → slice_index_or xs i d ≡ d
get_beyond [] i d h = refl
get_beyond (x ∷ xs) zero d h = absurd (omega arith)
get_beyond (x ∷ xs) (suc i) d h = get_beyond xs i d (omega arith)

-- the sets of the row of a place
pub row_sets : {c : Known} {k : Closed} (i : ℕ) → AreClosureSets c k → AreMade c (λ r. r.1) (slice_index_or k.rows i [])
row_sets {c} {k} i m = elim (lt_cases i (length k.rows)) [
  | inl l ↦ m.rows (slice_index_or k.rows i []) (In-at k.rows i [] l)
  | inr g ↦ subst (λ (row : Row). AreMade c (λ r. r.1) row) (sym (get_beyond k.rows i [] g)) (record { each = λ x h. In-nil h })
]

-- what `equal_at` and `equal` answer was made by the contexts
pub equal_at_made : {c : Known} {k : Closed} (i j : ℕ) → AreClosureSets c k → IsMade c (equal_at k i j)
equal_at_made {c} {k} i j m = in_row_made k.empty (slice_index_or k.rows i []) j m.empty (row_sets i m).each

pub equal_made : {c : Known} {k : Closed} (x y : Node) → AreClosureSets c k → IsMade c (equal_of k x y)
equal_made {c} {k} x y m = equal_at_made (place_in k.nodes x) (place_in k.nodes y) m

-- where the values do not clash
pub clash_excludes : {c : Known} {literals : List (Literal × Set)} {k : Closed} → IsClosureOf c literals k → Excludes k.clash (λ a. ¬ Clash (solution (holding literals a)))
clash_excludes m = excludes_of m.clash

-- what a closure has at an assignment is said of classes
pub alike_classes : (y z : Solution) → AreAlike y z → IsOfClasses z → IsOfClasses y
alike_classes y z e w = record {
  turned = λ x u h. (e.same u x).1 (w.turned x u ((e.same x u).0 h));
  joined = λ x u v h g. (e.same x v).1 (w.joined x u v ((e.same x u).0 h) ((e.same u v).0 g));
  arc = λ x n b t u h g f. (e.arc n b u).1 (w.arc x n b t u ((e.same n x).0 h) ((e.arc x b t).0 g) ((e.same t u).0 f));
  arc_target = λ x b t u h g. (e.same t u).1 (w.arc_target x b t u ((e.arc x b t).0 h) ((e.arc x b u).0 g));
  value = λ x n v h g. (e.value n v).1 (w.value x n v ((e.same n x).0 h) ((e.value x v).0 g));
  member = λ x n m t h g f. (e.member n t).1 (w.member x n m t ((e.same n x).0 h) ((e.member x m).0 g) ((e.same m t).0 f));
}

pub closure_classes : {c : Known} {literals : List (Literal × Set)} {k : Closed} (a : Assignment) → IsClosureOf c literals k → IsOfClasses (closure_at k a)
closure_classes {c} {literals} {k} a m = alike_classes (closure_at k a) (solution (holding literals a)) (m.alike a) (solution_of_classes (holding literals a))

-- a literal holds where its context has the assignment
pub holds_in : {X : Type 0} (xs : List (X × Set)) (a : Assignment) (x : X) (z : Set) → In (x, z) xs → member z a ≡ true → In x (holding xs a)
holds_in xs a x z i h = In-holding xs a x z i h

pub in_holds : {X : Type 0} (xs : List (X × Set)) (a : Assignment) (x : X) → In x (holding xs a) → (z : Set) × In (x, z) xs × (member z a ≡ true)
in_holds xs a x i = holding_In xs a x i

-- Lemmas for a function that calls `and`, `or`, .. beside a closure.
pub ruleset closed = (made_grown, grown_refl, grown_trans, same_picks_refl, same_picks_trans, are_made_grown, closure_sets_grown, closure_grown, equal_made, equal_at_made, row_sets)
