-- What marking numbers finds of the steps down between them.
use Rattle.std.proofs.Common.{◌≡◌, ℕ, ◌+◌, ◌<◌, ◌≤◌, Bool, false, IsTrue, List, [], length, take, get_or, refl, sym, subst, ◌∙◌, arith, inl, inr, ◌⊎◌}
use Rattle.std.specs.Prelude.{◌↔◌}
use Rattle.std.proofs.lemmas.Bool.{false≢true}
use Rattle.lfg_model.proofs.ListLaws.{In-nil, In-take_more}
use Rattle.lfg_solve.specs.declared.classes.Arc.{Arc}
use Rattle.lfg_solve.specs.declared.solution.Membership.{Membership}
use Rattle.lfg_solve.specs.Descents.{Descends, by_arc, to_member, IsUnder, one, more, IsMarked, AreUnder, AreWithin, Passes, Marks, PassesArcs, PassesMembers}

module _ (arcs : List Arc) (members : List Membership) where
  under_more : {i k j : ℕ} → IsUnder arcs members i k → Descends arcs members k j → IsUnder arcs members i j
  under_more (one d) e = more d (one e)
  under_more (more d u) e = more d (under_more u e)

  pub marks_under : (class from to : ℕ) (before after : List Bool) → Marks before to after → (from ≡ class) ⊎ IsMarked before from → Descends arcs members from to
      → AreUnder arcs members class before → AreUnder arcs members class after
  marks_under class from to before after m r d u = record {
    each = λ k i. elim (m.alone k i) [
      | inl a ↦ u.each k a
      | inr e ↦ subst (λ (n : ℕ). IsUnder arcs members class n) (sym e) (elim r [
        | inl f ↦ one (subst (λ (n : ℕ). Descends arcs members n to) f d)
        | inr h ↦ under_more (u.each from h) d
      ])
    ];
  }

  step_passes : (class : ℕ) (marks : List Bool) → PassesArcs class marks arcs → PassesMembers class marks members → (i j : ℕ) → Descends arcs members i j → Passes class marks i j
  step_passes class marks p q i j (by_arc {arc} h e f) = subst (λ (r : ℕ × ℕ). Passes class marks r.0 r.1) (λ k. (e k, f k)) (p.each arc h)
  step_passes class marks p q i j (to_member {member} h e f) = subst (λ (r : ℕ × ℕ). Passes class marks r.0 r.1) (λ k. (e k, f k)) (q.each member h)

  -- where all steps pass, what is under the class is marked
  all_marked : (class : ℕ) (marks : List Bool) → PassesArcs class marks arcs → PassesMembers class marks members → ((i j : ℕ) → Descends arcs members i j → j < length marks)
      → {i j : ℕ} → (i ≡ class) ⊎ IsMarked marks i → IsUnder arcs members i j → IsMarked marks j
  all_marked class marks p q w r (one {i} {j} d) = (step_passes class marks p q i j d).passes r (w i j d)
  all_marked class marks p q w r (more {i} {k} {j} d u) = all_marked class marks p q w (inr ((step_passes class marks p q i k d).passes r (w i k d))) u

  -- so the class is marked exactly where it is under itself
  pub marked_under : (count class : ℕ) (marks : List Bool) → AreWithin count arcs members → length marks ≡ count → AreUnder arcs members class marks → PassesArcs class marks arcs → PassesMembers class marks members
      → IsMarked marks class ↔ IsUnder arcs members class class
  marked_under count class marks w l u p q =
      (u.each class, all_marked class marks p q (λ i j d. let r = (w.each i j d).1 in omega arith) (inl refl))

  -- and no class is under itself where none below the count is
  under_within : (count : ℕ) → AreWithin count arcs members → {i j : ℕ} → IsUnder arcs members i j → i < count
  under_within count w (one {i} {j} d) = (w.each i j d).0
  under_within count w (more {i} {k} {j} d u) = (w.each i k d).0

  pub none_reaches_itself : (count k : ℕ) → AreWithin count arcs members → count ≤ k → ((i : ℕ) → i < k → ¬ IsUnder arcs members i i) → IsTrue false ↔ ((i : ℕ) × IsUnder arcs members i i)
  none_reaches_itself count k w l n = (λ t. absurd (false≢true t), λ u. let b = under_within count w u.1 in absurd (n u.0 (omega arith) u.1))

pub PassesArcs-none : (class : ℕ) (marks : List Bool) → PassesArcs class marks []
PassesArcs-none class marks = record { each = λ arc i. In-nil i }

pub PassesArcs-read : (class : ℕ) (marks : List Bool) (arcs : List Arc) (k : ℕ) (x : Arc) → k < length arcs → x ≡ get_or arcs k x → PassesArcs class marks (take k arcs) → Passes class marks x.from x.to
    → PassesArcs class marks (take (k + 1) arcs)
PassesArcs-read class marks arcs k x l e h p = record {
  each = λ y i. elim (In-take_more arcs k x l i) [ inl a ↦ h.each y a | inr f ↦ subst (λ (a : Arc). Passes class marks a.from a.to) (e ∙ sym f) p ];
}

pub PassesMembers-none : (class : ℕ) (marks : List Bool) → PassesMembers class marks []
PassesMembers-none class marks = record { each = λ arc i. In-nil i }

pub PassesMembers-at : (class : ℕ) (marks : List Bool) (members : List Membership) (k : ℕ) (d : Membership) → k < length members → PassesMembers class marks (take k members)
    → Passes class marks (get_or members k d).set (get_or members k d).item → PassesMembers class marks (take (k + 1) members)
PassesMembers-at class marks members k d l h p = record {
  each = λ y i. elim (In-take_more members k d l i) [ inl a ↦ h.each y a | inr f ↦ subst (λ (m : Membership). Passes class marks m.set m.item) (sym f) p ];
}

pub Passes-at : (class from to : ℕ) (before after : List Bool) → before ≡ after → Passes class before from to → Passes class after from to
Passes-at class from to before after e p = subst (λ (m : List Bool). Passes class m from to) e p
