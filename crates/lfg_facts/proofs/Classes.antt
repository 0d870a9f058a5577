-- What is asked of a closure, and what stays true of sets while the contexts grow. Crates above cite
-- these lemmas.
use Rattle.std.proofs.Common.{◌≡◌, ℕ, ◌<◌, true, ◌⊎◌, inl, inr, List, [], ◌∷◌, ◌++◌, length, get_or, sym, subst, ap}
use Rattle.std.specs.Prelude.{◌↔◌}
use Rattle.std.specs.List.{flat_map}
use Rattle.lfg_terms.specs.declared.node.Fact.{Fact}
use Rattle.lfg_terms.specs.declared.node.Node.{Node}
use Rattle.lfg_terms.specs.declared.literal.Literal.{Literal}
use Rattle.lfg_model.specs.Lists.{In, here, later}
use Rattle.lfg_model.specs.Literals.{nodes, named, with_prefixes, starts, checks_of}
use Rattle.lfg_model.specs.Readings.{IsFact}
use Rattle.lfg_model.specs.Solve.{solution}
use Rattle.lfg_model.proofs.Alike.{alike_turned, fact_alike}
use Rattle.lfg_model.proofs.ListLaws.{In-nil, In-at, In-cons_cases, In-push_cases, In-flat_map, In_from_flat_map}
use Rattle.lfg_model.proofs.Classing.{Equal-ends}
use Rattle.lfg_model.proofs.LiteralLaws.{literals_between}
use Rattle.lfg_model.proofs.SolutionLaws.{IsOfClasses}
use Rattle.lfg_context.specs.Seen.{Set, Known}
use Rattle.lfg_context.specs.Sets.{Assignment, member, IsMade, IsGrown}
use Rattle.lfg_context.proofs.Growing.{made_grown, are_made_grown, are_made_nil, are_made_push, are_made_set, pair_made_at, grown_refl, grown_trans, same_picks_refl, same_picks_trans}
use Rattle.lfg_unify.specs.Closures.{Closed, equal_at, SameAt, closure_at, IsClosureOf}
use Rattle.lfg_unify.specs.Holding.{holding, literals_of, Stated}
use Rattle.lfg_unify.proofs.Closed.{closure_grown, equal_at_made, closure_classes, in_holds}
use Rattle.lfg_facts.specs.Adding.{IsClosure}
use Rattle.lfg_facts.specs.Naming.{Names, AreTableSets}
use Rattle.lfg_facts.specs.Stating.{Entries, IsEntry, AreEntries, AreFactsOf}

-- the closure of literals is one of some literals
pub closure_is : {c : Known} {literals : List (Literal × Set)} {k : Closed} → IsClosureOf c literals k → IsClosure c k
closure_is {c} {literals} m = record { literals = literals; is = m }

-- The facts of a closure of literals are those of the solution of the literals that hold.
pub facts_hold : {c : Known} {literals : List (Literal × Set)} {k : Closed} {good : Set} {facts : Entries} → IsClosureOf c literals k → AreFactsOf k good facts
    → (a : Assignment) (f : Fact) → Stated facts a f ↔ ((member good a ≡ true) × IsFact (solution (holding literals a)) f)
facts_hold {c} {literals} {k} m h a f = (
  (λ s. let w = (h.each a f).0 s in (w.0, fact_alike (closure_at k a) (solution (holding literals a)) (m.alike a) f w.1)),
  (λ w. (h.each a f).1 (w.0, fact_alike (solution (holding literals a)) (closure_at k a) (alike_turned (m.alike a)) f w.1)),
)

pub is_closure_grown : {c d : Known} {k : Closed} → IsGrown c d → IsClosure c k → IsClosure d k
is_closure_grown g m = record { literals = m.literals; is = closure_grown g m.is }

pub table_grown : {c d : Known} {table : List Names} → IsGrown c d → AreTableSets c table → AreTableSets d table
table_grown g m = record { each = λ names i. are_made_grown g (m.each names i) }

pub entries_grown : {c d : Known} {es : Entries} → IsGrown c d → AreEntries c es → AreEntries d es
entries_grown g m = record { each = λ e i. let s = m.each e i in record { made = made_grown g s.made; some = s.some } }

pub entries_nil : (c : Known) → AreEntries c []
entries_nil c = record { each = λ e i. In-nil i }

pub entries_push : {c : Known} {es : Entries} (e : Fact × Set) → AreEntries c es → IsMade c e.1 → (a : Assignment) × (member e.1 a ≡ true) → AreEntries c (es ++ e ∷ [])
entries_push {c} {es} e m made some = record {
  each = λ d i. elim (In-push_cases es e i) [
    | inl j ↦ m.each d j
    | inr same ↦ (let P : (Fact × Set) → Type 0 = λ v. IsEntry c v in subst P (sym same) (record { made = made; some = some }))
  ];
}

pub entry_at : {c : Known} {es : Entries} (i : ℕ) (e : Fact × Set) → AreEntries c es → i < length es → e ≡ get_or es i e → IsEntry c e
entry_at {c} {es} i e m l at = let P : (Fact × Set) → Type 0 = λ v. IsEntry c v in subst P (sym at) (m.each (get_or es i e) (In-at es i e l))

-- what `equal_at` answers was made by the contexts
pub equal_at_result : {c : Known} {k : Closed} {z : Set} (i j : ℕ) → IsClosure c k → z ≡ equal_at k i j → IsMade c z
equal_at_result {c} i j m e = let P : Set → Type 0 = λ v. IsMade c v in subst P (sym e) (equal_at_made i j m.is.made)

pub classes_of : {c : Known} {k : Closed} (a : Assignment) → IsClosure c k → IsOfClasses (closure_at k a)
classes_of a m = closure_classes a m.is

literal_listed : (ls : List (Literal × Set)) (l : Literal) (z : Set) → In (l, z) ls → In l (literals_of ls)
literal_listed [] l z i = In-nil i
literal_listed (m ∷ ms) l z i = by_place (λ j. literal_listed ms l z j) (In-cons_cases i)
  where
    by_place : (In (l, z) ms → In l (literals_of ms)) → (◌≡◌ {A = Literal × Set} (l, z) m) ⊎ In (l, z) ms → In l (m.0 ∷ literals_of ms)
    by_place ih (inl e) = let P : Literal → Type 0 = λ v. In v (m.0 ∷ literals_of ms) in subst P (sym (ap (λ (v : Literal × Set). v.0) e)) here
    by_place ih (inr j) = later (ih j)

-- the nodes of literals that hold are nodes of all literals
held_node : (ls : List (Literal × Set)) (a : Assignment) (x : Node) → In x (nodes (holding ls a)) → In x (nodes (literals_of ls))
held_node ls a x i =
    let found = In_from_flat_map (λ l. flat_map with_prefixes (named l) ++ flat_map starts (checks_of l)) (holding ls a) i in
    let held = in_holds ls a found.0 found.1 in
    In-flat_map (λ l. flat_map with_prefixes (named l) ++ flat_map starts (checks_of l)) (literal_listed ls found.0 held.0 held.1) found.2

-- what is equal is among the nodes
pub equal_known : {c : Known} {k : Closed} (a : Assignment) (x y : Node) → IsClosure c k → SameAt k a x y → In x k.nodes × In y k.nodes
equal_known {c} {k} a x y m h =
    let ls = m.literals in
    let e = Equal-ends (literals_between (holding ls a)) (((m.is.alike a).same x y).0 h) in
    ((m.is.nodes.exact x).1 (held_node ls a x e.0), (m.is.nodes.exact y).1 (held_node ls a y e.1))

pub ruleset closed = (made_grown, grown_refl, grown_trans, same_picks_refl, same_picks_trans, are_made_grown, are_made_nil, are_made_push, pair_made_at, is_closure_grown, table_grown, entries_grown, entries_nil, entries_push, equal_at_result)
