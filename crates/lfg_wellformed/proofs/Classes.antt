-- What is asked of a closure: its sets are made, its equality is one of classes, and what is equal is
-- listed among its nodes.
use Rattle.std.proofs.Common.{◌≡◌, ℕ, ◌<◌, true, false, ◌⊎◌, inl, inr, List, [], ◌∷◌, ◌++◌, length, get_or, sym, subst, ◌∙◌, ap}
use Rattle.std.specs.List.{flat_map}
use Rattle.lfg_terms.specs.declared.node.Node.{Node}
use Rattle.lfg_terms.specs.declared.literal.Literal.{Literal}
use Rattle.lfg_model.specs.declared.constant.Constant.{Constant}
use Rattle.lfg_model.specs.Lists.{In, here, later}
use Rattle.lfg_model.specs.Terms.{Name}
use Rattle.lfg_model.specs.Literals.{nodes, named, with_prefixes, starts, checks_of}
use Rattle.lfg_model.specs.Solve.{solution}
use Rattle.lfg_model.proofs.ListLaws.{In-at, In-nil, In-cons_cases, In-flat_map, In_from_flat_map}
use Rattle.lfg_model.proofs.Classing.{Equal-ends}
use Rattle.lfg_model.proofs.LiteralLaws.{literals_between}
use Rattle.lfg_model.proofs.SolutionLaws.{IsOfClasses}
use Rattle.lfg_context.specs.Seen.{Set, Known}
use Rattle.lfg_context.specs.Sets.{Assignment, member, IsMade, AreMade, IsGrown}
use Rattle.lfg_context.proofs.Growing.{made_grown, are_made_grown, are_made_nil, are_made_push, are_made_set, pair_made_at, made_at, grown_refl, grown_trans, same_picks_refl, same_picks_trans}
use Rattle.lfg_unify.specs.Closures.{Closed, place_in, equal_at, equal_of, SameAt, closure_at, AreClosureSets, IsClosureOf}
use Rattle.lfg_unify.specs.Holding.{holding, literals_of}
use Rattle.lfg_unify.proofs.Closed.{closure_grown, closure_sets_grown, equal_at_made, equal_made, closure_classes, in_holds}
use Rattle.lfg_wellformed.specs.Asked.{IsClosure}

pub some_closure_grown : {c d : Known} {k : Closed} → IsGrown c d → IsClosure c k → IsClosure d k
some_closure_grown g m = record { literals = m.literals; is = closure_grown g m.is }

pub some_closure_sets : {c : Known} {k : Closed} → IsClosure c k → AreClosureSets c k
some_closure_sets m = m.is.made

-- what `equal_at` and `equal` answer is made
pub equal_at_result : {c : Known} {k : Closed} {z : Set} (i j : ℕ) → IsClosure c k → z ≡ equal_at k i j → IsMade c z
equal_at_result {c} i j m e = let P : Set → Type 0 = λ v. IsMade c v in subst P (sym e) (equal_at_made i j m.is.made)

pub equal_result : {c : Known} {k : Closed} {z : Set} (x y : Node) → IsClosure c k → z ≡ equal_of k x y → IsMade c z
equal_result {c} x y m e = let P : Set → Type 0 = λ v. IsMade c v in subst P (sym e) (equal_made x y m.is.made)

pub classes_of : {c : Known} {k : Closed} (a : Assignment) → IsClosure c k → IsOfClasses (closure_at k a)
classes_of a m = closure_classes a m.is

literal_listed : (ls : List (Literal × Set)) (l : Literal) (z : Set) → In (l, z) ls → In l (literals_of ls)
literal_listed [] l z i = In-nil i
literal_listed (m ∷ ms) l z i = by_place (λ j. literal_listed ms l z j) (In-cons_cases i)
  where
    by_place : (In (l, z) ms → In l (literals_of ms)) → (◌≡◌ {A = Literal × Set} (l, z) m) ⊎ In (l, z) ms → In l (m.0 ∷ literals_of ms)
    by_place ih (inl e) = let P : Literal → Type 0 = λ v. In v (m.0 ∷ literals_of ms) in subst P (sym (ap (λ (v : Literal × Set). v.0) e)) here
    by_place ih (inr j) = later (ih j)

-- the nodes of literals that hold are nodes of all literals
held_node : (ls : List (Literal × Set)) (a : Assignment) (x : Node) → In x (nodes (holding ls a)) → In x (nodes (literals_of ls))
held_node ls a x i =
    let found = In_from_flat_map (λ l. flat_map with_prefixes (named l) ++ flat_map starts (checks_of l)) (holding ls a) i in
    let held = in_holds ls a found.0 found.1 in
    In-flat_map (λ l. flat_map with_prefixes (named l) ++ flat_map starts (checks_of l)) (literal_listed ls found.0 held.0 held.1) found.2

-- what is equal is among the nodes
pub equal_known : {c : Known} {k : Closed} (a : Assignment) (x y : Node) → IsClosure c k → SameAt k a x y → In x k.nodes × In y k.nodes
equal_known {c} {k} a x y m h =
    let ls = m.literals in
    let e = Equal-ends (literals_between (holding ls a)) (((m.is.alike a).same x y).0 h) in
    ((m.is.nodes.exact x).1 (held_node ls a x e.0), (m.is.nodes.exact y).1 (held_node ls a y e.1))

pub ruleset closed = (made_grown, grown_refl, grown_trans, same_picks_refl, same_picks_trans, are_made_grown, are_made_nil, are_made_push, are_made_set, pair_made_at, some_closure_grown, equal_at_result, equal_result)

-- the sets of listed values, arcs and members are made
pub value_at : {c : Known} {k : Closed} (values : List (Node × Constant × Set)) (i : ℕ) (d : Node × Constant × Set) → IsClosure c k → values ≡ k.values → i < length values → d ≡ get_or values i d → IsMade c d.2
value_at {c} {k} values i d m e h is =
    let P : Node × Constant × Set → Type 0 = λ v. IsMade c v.2 in
    let Q : List (Node × Constant × Set) → Type 0 = λ v. In (get_or values i d) v in
    subst P (sym is) (m.is.made.values.each (get_or values i d) (subst Q e (In-at values i d h)))

pub arc_at : {c : Known} {k : Closed} (arcs : List (Node × Name × Node × Set)) (i : ℕ) (d : Node × Name × Node × Set) → IsClosure c k → arcs ≡ k.arcs → i < length arcs → d ≡ get_or arcs i d → IsMade c d.3
arc_at {c} {k} arcs i d m e h is =
    let P : Node × Name × Node × Set → Type 0 = λ v. IsMade c v.3 in
    let Q : List (Node × Name × Node × Set) → Type 0 = λ v. In (get_or arcs i d) v in
    subst P (sym is) (m.is.made.arcs.each (get_or arcs i d) (subst Q e (In-at arcs i d h)))

pub member_at : {c : Known} {k : Closed} (members : List (Node × Node × Set)) (i : ℕ) (d : Node × Node × Set) → IsClosure c k → members ≡ k.members → i < length members → d ≡ get_or members i d → IsMade c d.2
member_at {c} {k} members i d m e h is =
    let P : Node × Node × Set → Type 0 = λ v. IsMade c v.2 in
    let Q : List (Node × Node × Set) → Type 0 = λ v. In (get_or members i d) v in
    subst P (sym is) (m.is.made.members.each (get_or members i d) (subst Q e (In-at members i d h)))
