-- What is asked of listed arcs, values and members is completeness and coherence of the solution.
use Rattle.std.proofs.Common.{◌≡◌, ℕ, ◌⊎◌, inl, inr, true, List, subst, sym, refl}
use Rattle.std.specs.Prelude.{◌↔◌}
use Rattle.lfg_terms.specs.declared.node.Node.{Node}
use Rattle.lfg_terms.specs.declared.grammar.Form.{Form}
use Rattle.lfg_terms.specs.declared.literal.Site.{Site}
use Rattle.lfg_terms.specs.declared.literal.Literal.{Literal}
use Rattle.lfg_model.specs.declared.constant.Constant.{Constant}
use Rattle.lfg_model.specs.declared.constant.Constant.TheVariants as constant
use Rattle.lfg_model.specs.Lists.{In}
use Rattle.lfg_model.specs.Terms.{Name}
use Rattle.lfg_model.specs.Solve.{Solution, solution, AreAlike, pred, HasPred, IsSet, HasForm, IsComplete, IsGoverned, IsCoherent}
use Rattle.lfg_model.proofs.Alike.{alike_turned, form_alike}
use Rattle.lfg_context.specs.Seen.{Set, Known}
use Rattle.lfg_context.specs.Sets.{Assignment, member}
use Rattle.lfg_context.specs.Telling.{Excludes, InSome, OfAll}
use Rattle.lfg_context.proofs.Telling.{excludes_as}
use Rattle.lfg_unify.specs.Closures.{Closed, place_in, SameAt, HasArcAt, HasValueAt, HasMemberAt, closure_at, IsClosureOf}
use Rattle.lfg_unify.specs.Holding.{holding}
use Rattle.lfg_wellformed.specs.Asked.{IsClosure, Arc, Value, Member, LeadsBy, HasArcBy, IsMemberIn, HasMemberIn, HasContent, IsFilling, CompletesValue, CompletesArc, Names, NamesAt, IsNaming, IsExempt, GovernsArc, CoheresAt}
use Rattle.lfg_wellformed.proofs.Classes.{classes_of}

-- ---- likeness

module _ (y z : Solution) (e : AreAlike y z) where
  pred_like : (x : Node) → HasPred y x → HasPred z x
  pred_like x h = (h.0, (e.arc x pred h.0).0 h.1)

  set_like : (x : Node) → IsSet y x → IsSet z x
  set_like x h = (h.0, (e.member x h.0).0 h.1)

pub complete_like : (y z : Solution) → AreAlike y z → IsComplete y → IsComplete z
complete_like y z e c =
    let back = alike_turned e in
    record {
      inner = λ x form g h i.
          let r = c.inner x form g (form_alike z y back x form h) i in
          (r.0, (e.arc x g r.0).0 r.1, elim r.2 [ inl p ↦ inl (pred_like y z e r.0 p) | inr s ↦ inr (set_like y z e r.0 s) ]);
      outer = λ x form g h i.
          let r = c.outer x form g (form_alike z y back x form h) i in
          (r.0, (e.arc x g r.0).0 r.1);
    }

pub coherent_like : (y z : Solution) (governable : List Name) → AreAlike y z → IsCoherent y governable → IsCoherent z governable
coherent_like y z governable e c =
    let back = alike_turned e in
    record {
      each = λ x t g i h. elim (c.each x t g i ((e.arc x g t).1 h)) [
        | inl f ↦ inl (f.0, form_alike y z e x f.0 f.1, f.2)
        | inr s ↦ inr (set_like y z e x s.0, λ p. s.1 (pred_like z y back x p))
      ];
    }

-- ---- arcs and members of classes

module _ {c : Known} {k : Closed} (m : IsClosure c k) (a : Assignment) where
  arc_of : (x : Node) (name : Name) (r : Arc) → In r k.arcs → LeadsBy k (place_in k.nodes x) name r a → HasArcAt k a x name r.2
  arc_of x name r i s = record {
    from = r.0;
    to = r.2;
    ctx = r.3;
    listed = (let P : Name → Type 0 = λ n. In (r.0, n, r.2, r.3) k.arcs in subst P s.name_is i);
    holds = s.holds;
    start = s.same;
    end = (m.is.there.arc a r.0 r.1 r.2 r.3 i s.holds).1;
  }

  arc_from : (x : Node) (name : Name) (t : Node) → HasArcAt k a x name t → HasArcBy k (place_in k.nodes x) name a
  arc_from x name t h = record { item = (h.from, name, h.to, h.ctx); listed = h.listed; holds = record { name_is = refl; holds = h.holds; same = h.start } }

  arc_moved : (x u : Node) (name : Name) (t : Node) → SameAt k a u x → HasArcAt k a x name t → HasArcAt k a u name t
  arc_moved x u name t e h = record { from = h.from; to = h.to; ctx = h.ctx; listed = h.listed; holds = h.holds; start = (classes_of a m).joined u x h.from e h.start; end = h.end }

  member_of : (x : Node) (r : Member) → In r k.members → IsMemberIn k (place_in k.nodes x) r a → HasMemberAt k a x r.0
  member_of x r i s = record { item = r.0; set = r.1; ctx = r.2; listed = i; holds = s.holds; same = s.same; is = (m.is.there.member a r.0 r.1 r.2 i s.holds).0 }

  member_from : (x u : Node) → HasMemberAt k a x u → HasMemberIn k (place_in k.nodes x) a
  member_from x u h = record { item = (h.item, h.set, h.ctx); listed = h.listed; holds = record { holds = h.holds; same = h.same } }

  member_moved : (x u t : Node) → SameAt k a u x → HasMemberAt k a x t → HasMemberAt k a u t
  member_moved x u t e h = record { item = h.item; set = h.set; ctx = h.ctx; listed = h.listed; holds = h.holds; same = (classes_of a m).joined u x h.set e h.same; is = h.is }

  pred_of : (x : Node) → HasArcBy k (place_in k.nodes x) pred a → HasPred (closure_at k a) x
  pred_of x s = (s.item.2, arc_of x pred s.item s.listed s.holds)

  set_of : (x : Node) → HasMemberIn k (place_in k.nodes x) a → IsSet (closure_at k a) x
  set_of x s = (s.item.0, member_of x s.item s.listed s.holds)

  content_of : (x : Node) → HasContent k (place_in k.nodes x) a → HasPred (closure_at k a) x ⊎ IsSet (closure_at k a) x
  content_of x s = elim s.content [ inl p ↦ inl (pred_of x p) | inr q ↦ inr (set_of x q) ]

  content_from : (x u : Node) → SameAt k a u x → HasPred (closure_at k a) x ⊎ IsSet (closure_at k a) x → HasContent k (place_in k.nodes u) a
  content_from x u e h = record {
    content = elim h [
      | inl p ↦ inl (arc_from u pred p.0 (arc_moved x u pred p.0 e p.1))
      | inr q ↦ inr (member_from u q.0 (member_moved x u q.0 e q.1))
    ];
  }

  filling_of : (x : Node) (g : Name) → InSome k.arcs (IsFilling k (place_in k.nodes x) g) a → (t : Node) × HasArcAt k a x g t × (HasPred (closure_at k a) t ⊎ IsSet (closure_at k a) t)
  filling_of x g s = (s.item.2, arc_of x g s.item s.listed s.holds.leads, content_of s.item.2 s.holds.content)

  filling_from : (x : Node) (g : Name) (t : Node) → HasArcAt k a x g t → HasPred (closure_at k a) t ⊎ IsSet (closure_at k a) t → InSome k.arcs (IsFilling k (place_in k.nodes x) g) a
  filling_from x g t h f = record {
    item = (h.from, g, h.to, h.ctx);
    listed = h.listed;
    holds = record { leads = record { name_is = refl; holds = h.holds; same = h.start }; content = content_from t h.to h.end f };
  }

  -- the form of a class, by a listed arc and a listed value
  form_of : (x : Node) (form : Form) (site : Site) (index : ℕ) (r : Arc) (v : Value) → In r k.arcs → LeadsBy k (place_in k.nodes x) pred r a → In v k.values → v.1 ≡ constant.Form form site index
      → member v.2 a ≡ true → SameAt k a r.2 v.0 → HasForm (closure_at k a) x form
  form_of x form site index r v i s j is on e = record {
    at = r.2;
    by_pred = arc_of x pred r i s;
    site = site;
    index = index;
    is_value = record { at = v.0; ctx = v.2; listed = (let P : Constant → Type 0 = λ w. In (v.0, w, v.2) k.values in subst P is j); holds = on; same = e };
  }

  -- ---- completeness

  complete_of : OfAll k.arcs (CompletesArc k) a → IsComplete (closure_at k a)
  complete_of s = record {
    inner = λ x form g h i.
        let f = filling_of h.by_pred.from g ((functions x form h).0 g i) in
        (f.0, arc_moved h.by_pred.from x g f.0 h.by_pred.start f.1, f.2);
    outer = λ x form g h i.
        let f = (functions x form h).1 g i in
        (f.item.2, arc_moved h.by_pred.from x g f.item.2 h.by_pred.start (arc_of h.by_pred.from g f.item f.listed f.holds));
  }
    where
      functions : (x : Node) (form : Form) (h : HasForm (closure_at k a) x form)
          → ((g : Name) → In g form.inner → InSome k.arcs (IsFilling k (place_in k.nodes h.by_pred.from) g) a) × ((g : Name) → In g form.outer → HasArcBy k (place_in k.nodes h.by_pred.from) g a)
      functions x form h =
          let p = h.by_pred in
          let v = h.is_value in
          (((s.each (p.from, pred, p.to, p.ctx) p.listed).each refl).each (v.at, constant.Form form h.site h.index, v.ctx) v.listed).functions form h.site h.index refl p.holds v.holds
          ((classes_of a m).joined p.to h.at v.at p.end v.same)

  complete_from : IsComplete (closure_at k a) → OfAll k.arcs (CompletesArc k) a
  complete_from s = record {
    each = λ r i. record {
      each = λ named. record {
        each = λ v j. record {
          functions = λ form site index is on there same.
              let t = m.is.there.arc a r.0 r.1 r.2 r.3 i on in
              let h = form_of r.0 form site index r v i (record { name_is = named; holds = on; same = t.0 }) j is there same in (
                (λ g l. let f = s.inner r.0 form g h l in filling_from r.0 g f.0 f.1 f.2),
                (λ g l. let f = s.outer r.0 form g h l in arc_from r.0 g f.0 f.1),
              );
        };
      };
    };
  }

  -- ---- coherence

  coherent_of : (governable : List Name) → OfAll k.arcs (CoheresAt k governable) a → IsCoherent (closure_at k a) governable
  coherent_of governable s = record {
    each = λ x t g i h. elim ((((s.each (h.from, g, h.to, h.ctx) h.listed).governed i).governed) h.holds) [
      | inl n ↦ inl (
          let v = n.holds.named in
          let y = classes_of a m in
          let leads : LeadsBy k (place_in k.nodes x) pred n.item a = record { name_is = n.holds.leads.name_is; holds = n.holds.leads.holds; same = y.joined x h.from n.item.0 h.start n.holds.leads.same } in
          (v.holds.form, form_of x v.holds.form v.holds.site v.holds.index n.item v.item n.listed leads v.listed v.holds.is v.holds.holds v.holds.same, v.holds.names))
      | inr f ↦ inr (
          let set = set_of h.from f.has_member in
          let y = classes_of a m in
          ((set.0, member_moved h.from x set.0 h.start set.1), λ p. f.no_pred (arc_from h.from pred p.0 (arc_moved x h.from pred p.0 (y.turned x h.from h.start) p.1))))
    ];
  }

  coherent_from : (governable : List Name) → IsCoherent (closure_at k a) governable → OfAll k.arcs (CoheresAt k governable) a
  coherent_from governable s = record {
    each = λ r i. record {
      governed = λ j. record {
        governed = λ on.
            let t = m.is.there.arc a r.0 r.1 r.2 r.3 i on in
            elim (s.each r.0 r.2 r.1 j (record { from = r.0; to = r.2; ctx = r.3; listed = i; holds = on; start = t.0; end = t.1 })) [
              | inl f ↦ inl (
                  let h = f.1 in
                  let p = h.by_pred in
                  let v = h.is_value in
                  record {
                    item = (p.from, pred, p.to, p.ctx);
                    listed = p.listed;
                    holds = record {
                      leads = record { name_is = refl; holds = p.holds; same = p.start };
                      named = record {
                        item = (v.at, constant.Form f.0 h.site h.index, v.ctx);
                        listed = v.listed;
                        holds = record { form = f.0; site = h.site; index = h.index; is = refl; names = f.2; holds = v.holds; same = (classes_of a m).joined p.to h.at v.at p.end v.same };
                      };
                    };
                  })
              | inr f ↦ inr (record { has_member = member_from r.0 f.0.0 f.0.1; no_pred = λ p. f.1 (pred_of r.0 p) })
            ];
      };
    };
  }

pub complete_excludes : {c : Known} {k : Closed} {z : Set} → Excludes z (OfAll k.arcs (CompletesArc k)) → (literals : List (Literal × Set)) → IsClosureOf c literals k → Excludes z (λ a. IsComplete (solution (holding literals a)))
complete_excludes {c} {k} t literals m =
    let some : IsClosure c k = record { literals = literals; is = m } in
    excludes_as t (λ a. (
      (λ s. complete_like (closure_at k a) (solution (holding literals a)) (m.alike a) (complete_of some a s)),
      (λ s. complete_from some a (complete_like (solution (holding literals a)) (closure_at k a) (alike_turned (m.alike a)) s)),
    ))

pub coherent_excludes : {c : Known} {k : Closed} {z : Set} (governable : List Name) → Excludes z (OfAll k.arcs (CoheresAt k governable)) → (literals : List (Literal × Set)) → IsClosureOf c literals k
    → Excludes z (λ a. IsCoherent (solution (holding literals a)) governable)
coherent_excludes {c} {k} governable t literals m =
    let some : IsClosure c k = record { literals = literals; is = m } in
    excludes_as t (λ a. (
      (λ s. coherent_like (closure_at k a) (solution (holding literals a)) governable (m.alike a) (coherent_of some a governable s)),
      (λ s. coherent_from some a governable (coherent_like (solution (holding literals a)) (closure_at k a) governable (alike_turned (m.alike a)) s)),
    ))
