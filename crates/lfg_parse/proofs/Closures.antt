-- What stays true of closures and sets while contexts grow, and when the solution at an assignment meets
-- all conditions.
use Rattle.std.proofs.lemmas.List.{take_more}
use Rattle.std.proofs.Common.{◌<◌, ◌+◌, ◌++◌, ◌⊎◌, inl, inr, take, get_or, ◌≡◌, ◌≢◌, ℕ, suc, Bool, true, false, ◌&&◌, not, ◌==◌, List, [], ◌∷◌, length, refl, sym, ◌∙◌, subst, ap, arith}
use Rattle.std.specs.Prelude.{◌↔◌}
use Rattle.lfg_terms.specs.declared.node.Edge.{Edge}
use Rattle.lfg_terms.specs.declared.grammar.Grammar.{Grammar}
use Rattle.lfg_terms.specs.declared.tree.TokenForms.{TokenForms}
use Rattle.lfg_model.specs.Charts.{Fork, IsChart}
use Rattle.lfg_model.specs.Derive.{edge}
use Rattle.lfg_model.specs.Terms.{Name}
use Rattle.lfg_model.specs.Lists.{In, here, Lists}
use Rattle.lfg_model.proofs.ListLaws.{In-nil, In-push, In-push_cases, In-append_left}
use Rattle.lfg_terms.specs.declared.node.Fact.{Fact}
use Rattle.lfg_store.specs.Facts.{Entries, facts_at}
use Rattle.lfg_store.proofs.Held.{held_from, In-held}
use Rattle.lfg_terms.specs.Order.{fact_cmp}
use Rattle.lfg_model.proofs.ChartLaws.{Lists-same}
use Rattle.lfg_facts.specs.Stating as stating
use Rattle.lfg_facts.proofs.Classes.{facts_hold}
use Rattle.lfg_instant.proofs.InstantiateLaws.{no_root}
use Rattle.lfg_terms.specs.declared.literal.Literal.{Literal}
use Rattle.lfg_model.specs.Solve.{solution, Clash, IsComplete, IsCoherent, IsAcyclic, IsWellFormed}
use Rattle.lfg_context.specs.Seen.{Set, Known}
use Rattle.lfg_context.specs.Sets.{Assignment, member, IsMade, IsGrown}
use Rattle.lfg_context.specs.Telling.{Tells, Excludes}
use Rattle.lfg_context.proofs.Growing.{made_grown, are_made_grown, are_made_nil, are_made_push, are_made_set, pair_made_at, made_at, grown_refl, grown_trans, same_picks_refl, same_picks_trans}
use Rattle.lfg_unify.specs.Closures.{Closed, IsClosureOf}
use Rattle.lfg_unify.specs.Holding.{holding, Stated}
use Rattle.lfg_unify.proofs.Closed.{closure_grown, clash_excludes}
use Rattle.lfg_constrain.specs.Checks.{AreSatisfied}
use Rattle.lfg_wellformed.specs.Asked as wellformed
use Rattle.lfg_facts.specs.Adding as facts
use Rattle.lfg_parse.specs.Judging.{IsConsistentAt, IsCompleteWithin, IsWellFormedAt, IsGood, Restricts, HasTreeWithin, HasFactsWithin}

-- a closure of literals is one of some literals, in the words of each crate that asks for it
pub asked_closure : {c : Known} {literals : List (Literal × Set)} {k : Closed} → IsClosureOf c literals k → wellformed.IsClosure c k
asked_closure {c} {literals} m = record { literals = literals; is = m }

pub stated_closure : {c : Known} {literals : List (Literal × Set)} {k : Closed} → IsClosureOf c literals k → facts.IsClosure c k
stated_closure {c} {literals} m = record { literals = literals; is = m }

-- the set of clashes was made
pub clash_made : {c : Known} {literals : List (Literal × Set)} {k : Closed} {z : Set} → IsClosureOf c literals k → z ≡ k.clash → IsMade c z
clash_made {c} m e = let P : Set → Type 0 = λ v. IsMade c v in subst P (sym e) m.made.clash

pub ruleset closures = (made_grown, grown_refl, grown_trans, same_picks_refl, same_picks_trans, are_made_grown, are_made_nil, are_made_push, are_made_set, pair_made_at, closure_grown, asked_closure, stated_closure, clash_made)

-- ---- what is left when five sets are taken away

not_true : (b : Bool) → not b ≡ true → b ≡ false
not_true false e = refl
not_true true e = sym e

from_false : (b : Bool) → b ≡ false → not b ≡ true
from_false false e = refl
from_false true e = sym e

both : (p q : Bool) → (p && q) ≡ true → (p ≡ true) × (q ≡ true)
both p q e = grind arith

join : (p q : Bool) → p ≡ true → q ≡ true → (p && q) ≡ true
join p q e f = grind arith

-- the members of a difference of a set and one that excludes P
module _ (x y z : Set) (P : Assignment → Type 0) (is : (a : Assignment) → member z a ≡ (member x a && not (member y a))) (e : Excludes y P) where
  left_of : (a : Assignment) → member z a ≡ true → (member x a ≡ true) × P a
  left_of a m = let h = both (member x a) (not (member y a)) (sym (is a) ∙ m) in (h.0, (e.each a).0 (not_true (member y a) h.1))

  of_left : (a : Assignment) → member x a ≡ true → P a → member z a ≡ true
  of_left a m p = is a ∙ join (member x a) (not (member y a)) m (from_false (member y a) ((e.each a).1 p))

pub consistent_left : (literals : List (Literal × Set)) (all clash unclashing failing z : Set) → ((a : Assignment) → member all a ≡ true)
    → ((a : Assignment) → member unclashing a ≡ (member all a && not (member clash a))) → ((a : Assignment) → member z a ≡ (member unclashing a && not (member failing a)))
    → Excludes clash (λ a. ¬ Clash (solution (holding literals a))) → Excludes failing (AreSatisfied literals) → Tells z (IsConsistentAt literals)
consistent_left literals all clash unclashing failing z everywhere first second eclash efailing = record {
  each = λ a. (
    (λ m.
        (let h2 = left_of unclashing failing z (AreSatisfied literals) second efailing a m in
        let h1 = left_of all clash unclashing (λ b. ¬ Clash (solution (holding literals b))) first eclash a h2.0 in
        record { consistent = h1.1; satisfied = h2.1 })),
    (λ w.
        of_left unclashing failing z (AreSatisfied literals) second efailing a
        (of_left all clash unclashing (λ b. ¬ Clash (solution (holding literals b))) first eclash a (everywhere a) w.consistent) w.satisfied),
  );
}

pub complete_left : (literals : List (Literal × Set)) (governable : List Name) (set incomplete complete incoherent z : Set)
    → ((a : Assignment) → member complete a ≡ (member set a && not (member incomplete a))) → ((a : Assignment) → member z a ≡ (member complete a && not (member incoherent a)))
    → Excludes incomplete (λ a. IsComplete (solution (holding literals a))) → Excludes incoherent (λ a. IsCoherent (solution (holding literals a)) governable)
    → Tells z (IsCompleteWithin literals governable set)
complete_left literals governable set incomplete complete incoherent z first second eincomplete eincoherent = record {
  each = λ a. (
    (λ m.
        (let h2 = left_of complete incoherent z (λ b. IsCoherent (solution (holding literals b)) governable) second eincoherent a m in
        let h1 = left_of set incomplete complete (λ b. IsComplete (solution (holding literals b))) first eincomplete a h2.0 in
        record { within = h1.0; complete = h1.1; coherent = h2.1 })),
    (λ w.
        of_left complete incoherent z (λ b. IsCoherent (solution (holding literals b)) governable) second eincoherent a
        (of_left set incomplete complete (λ b. IsComplete (solution (holding literals b))) first eincomplete a w.within w.complete) w.coherent),
  );
}

pub well_formed_left : (g : Grammar) (literals : List (Literal × Set)) (consistent complete cyclic z : Set)
    → ((a : Assignment) → member z a ≡ (member complete a && not (member cyclic a))) → Tells consistent (IsConsistentAt literals)
    → Tells complete (IsCompleteWithin literals g.governable consistent) → Excludes cyclic (λ a. IsAcyclic (solution (holding literals a))) → Tells z (IsWellFormedAt g literals)
well_formed_left g literals consistent complete cyclic z is tconsistent tcomplete ecyclic = record {
  each = λ a. (
    (λ m.
        (let h3 = left_of complete cyclic z (λ b. IsAcyclic (solution (holding literals b))) is ecyclic a m in
        let h2 = (tcomplete.each a).0 h3.0 in
        let h1 = (tconsistent.each a).0 h2.within in
        record { consistent = h1.consistent; acyclic = h3.1; satisfied = h1.satisfied.each; complete = h2.complete; coherent = h2.coherent })),
    (λ w.
        of_left complete cyclic z (λ b. IsAcyclic (solution (holding literals b))) is ecyclic a
        ((tcomplete.each a).1 (record {
          within = (tconsistent.each a).1 (record { consistent = w.consistent; satisfied = record { each = w.satisfied } });
          complete = w.complete;
          coherent = w.coherent;
        })) w.acyclic),
  );
}

-- ---- sentences with and without a derivation

-- without an edge in the chart no assignment is good
pub none_good : (g : Grammar) (s : List TokenForms) (edges : List Edge) (forks : List Fork) (ls : List (Literal × Set)) (z : Set) → IsChart g s edges forks → edges ≡ []
    → ((a : Assignment) → member z a ≡ false) → Tells z (IsGood g s ls)
none_good g s edges forks ls z chart none empty = record {
  each = λ a. (
    (λ m. (let never : false ≡ true = sym (empty a) ∙ m in cc)),
    (λ w. absurd (no_root g s edges forks chart (λ i. (let P : List Edge → Type 0 = λ v. In (edge g.root 0 (length s)) v in In-nil (subst P none i))) w.derivation w.whole)),
  );
}

-- with one, those are where the solution meets all conditions
pub some_good : (g : Grammar) (s : List TokenForms) (e : Edge) (edges : List Edge) (forks : List Fork) (ls : List (Literal × Set)) (z : Set) → IsChart g s edges forks → In e edges
    → Tells z (IsWellFormedAt g ls) → Tells z (IsGood g s ls)
some_good g s e edges forks ls z chart i t = record {
  each = λ a. (
    (λ m. (let st = (chart.all_edges.exact e).0 i in record { derivation = st.derivation; whole = st.whole; well_formed = (t.each a).0 m })),
    (λ w. (t.each a).1 w.well_formed),
  );
}

-- a list that is not empty has a first element
pub first_in : (edges : List Edge) → (length edges == 0) ≡ false → (e : Edge) × In e edges
first_in [] h = cc
first_in (e ∷ es) h = (e, here)

pub no_first : (edges : List Edge) → (length edges == 0) ≡ true → edges ≡ []
no_first [] h = refl
no_first (e ∷ es) h = absurd (not_zero (length es) h)
  where
    not_zero : (n : ℕ) → (suc n == 0) ≡ true → ⊥
    not_zero n e = grind arith

-- ---- facts that are restricted one by one

stated_old : (es : Entries) (e : Fact × Set) (a : Assignment) (f : Fact) → Stated (es ++ e ∷ []) a f → Stated es a f ⊎ ((f ≡ e.0) × (member e.1 a ≡ true))
stated_old es e a f s = elim (In-push_cases es e s.listed) [
  | inl i ↦ inl (record { set = s.set; listed = i; holds = s.holds })
  | inr q ↦ inr (ap (λ v. v.0) q, (let P : Set → Type 0 = λ v. member v a ≡ true in subst P (ap (λ v. v.1) q) s.holds))
]

stated_front : (es : Entries) (e : Fact × Set) (a : Assignment) (f : Fact) → Stated es a f → Stated (es ++ e ∷ []) a f
stated_front es e a f s = record { set = s.set; listed = In-append_left (e ∷ []) s.listed; holds = s.holds }

stated_back : (es : Entries) (e : Fact × Set) (a : Assignment) → member e.1 a ≡ true → Stated (es ++ e ∷ []) a e.0
stated_back es e a m = record { set = e.1; listed = In-push es e; holds = m }

pub restricts_none : (set : Set) → Restricts [] set []
restricts_none set = record { each = λ a f. ((λ s. In-nil s.listed), (λ s. In-nil s.0.listed)) }

-- one entry more of each list
pub restricts_push : (old new : Entries) (e : Fact × Set) (set within : Set) → Restricts old set new → ((a : Assignment) → member within a ≡ (member e.1 a && member set a))
    → Restricts (old ++ e ∷ []) set (new ++ (e.0, within) ∷ [])
restricts_push old new e set within r is = record { each = λ a f. (there a f, back a f) }
  where
    there : (a : Assignment) (f : Fact) → Stated (new ++ (e.0, within) ∷ []) a f → Stated (old ++ e ∷ []) a f × (member set a ≡ true)
    there a f s = elim (stated_old new (e.0, within) a f s) [
      | inl t ↦ (let h = (r.each a f).0 t in (stated_front old e a f h.0, h.1))
      | inr q ↦
          (let h = both (member e.1 a) (member set a) (sym (is a) ∙ q.1) in
          let P : Fact → Type 0 = λ v. Stated (old ++ e ∷ []) a v in
          (subst P (sym q.0) (stated_back old e a h.0), h.1))
    ]

    back : (a : Assignment) (f : Fact) → Stated (old ++ e ∷ []) a f × (member set a ≡ true) → Stated (new ++ (e.0, within) ∷ []) a f
    back a f s = elim (stated_old old e a f s.0) [
      | inl t ↦ stated_front new (e.0, within) a f ((r.each a f).1 (t, s.1))
      | inr q ↦
          (let P : Fact → Type 0 = λ v. Stated (new ++ (e.0, within) ∷ []) a v in
          subst P (sym q.0) (stated_back new (e.0, within) a (is a ∙ join (member e.1 a) (member set a) q.1 s.1)))
    ]

-- the first entries of a list, one by one
pub restricts_more : (all new : Entries) (i : ℕ) (e d : Fact × Set) (set within : Set) → i < length all → e ≡ get_or all i d → Restricts (take i all) set new
    → ((a : Assignment) → member within a ≡ (member e.1 a && member set a)) → Restricts (take (i + 1) all) set (new ++ (e.0, within) ∷ [])
restricts_more all new i e d set within l at r is =
    let P : Entries → Type 0 = λ v. Restricts v set (new ++ (e.0, within) ∷ []) in
    let Q : Fact × Set → Type 0 = λ v. Restricts (take i all ++ v ∷ []) set (new ++ (e.0, within) ∷ []) in
    subst P (sym (take_more all i d l)) (subst Q at (restricts_push (take i all) new e set within r is))

-- ---- stores

stated_held : (es : Entries) (a : Assignment) (f : Fact) → In f (facts_at es a) ↔ Stated es a f
stated_held es a f = (
  (λ i.
      (let h = held_from es a f i in
      let P : Fact → Type 0 = λ v. In (v, h.0.1) es in
      record { set = h.0.1; listed = subst P h.2 h.1; holds = h.3 })),
  (λ s. In-held es a (f, s.set) s.listed s.holds),
)

pub tree_store : (listed kept tree : Entries) (set : Set) → Restricts listed set kept → ((a : Assignment) → Lists fact_cmp (λ f. In f (facts_at kept a)) (facts_at tree a)) → HasTreeWithin listed set tree
tree_store listed kept tree set r is a = Lists-same (λ f. (
  (λ i. (r.each a f).0 ((stated_held kept a f).0 i)),
  (λ s. (stated_held kept a f).1 ((r.each a f).1 s)),
)) (is a)

pub fact_store : {c : Known} {k : Closed} (literals : List (Literal × Set)) (found facts : Entries) (set : Set) → IsClosureOf c literals k → stating.AreFactsOf k set found
    → ((a : Assignment) → Lists fact_cmp (λ f. In f (facts_at found a)) (facts_at facts a)) → HasFactsWithin literals set facts
fact_store {c} {k} literals found facts set m h is a = Lists-same (λ f. (
  (λ i. (facts_hold m h a f).0 ((stated_held found a f).0 i)),
  (λ s. (stated_held found a f).1 ((facts_hold m h a f).1 s)),
)) (is a)
