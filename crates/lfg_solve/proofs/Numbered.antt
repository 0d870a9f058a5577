-- The conditions on a solution, by its numbers.
use Rattle.std.proofs.Common.{◌≡◌, ℕ, Bool, IsTrue, List, Some, refl, sym, subst, inl, inr, ◌⊎◌}
use Rattle.std.specs.Prelude.{◌↔◌, slice_get}
use Rattle.lfg_terms.specs.Order.{node_cmp}
use Rattle.lfg_terms.specs.OrderLaws.{node_cmp_total}
use Rattle.lfg_terms.specs.declared.node.Node.{Node}
use Rattle.lfg_terms.specs.declared.literal.Literal.{Literal}
use Rattle.lfg_model.specs.declared.constant.Constant.{Constant}
use Rattle.lfg_model.specs.declared.constant.Constant.TheVariants as constant
use Rattle.lfg_terms.specs.declared.grammar.Form.{Form}
use Rattle.lfg_model.specs.Lists.{In}
use Rattle.lfg_model.specs.Terms.{Name}
use Rattle.lfg_model.specs.Solve.{pred, HasPred, IsSet, HasForm, IsComplete, IsGoverned, IsCoherent, Clash, two_values, beside_arc, beside_member, SameNode, HasArc, arc, HasValue, value, HasMember, member, solution}
use Rattle.lfg_model.proofs.SolutionLaws.{IsOfClasses, solution_of_classes}
use Rattle.lfg_solve.specs.declared.solution.Solution.{Solution}
use Rattle.lfg_solve.specs.declared.classes.Arc.{Arc}
use Rattle.lfg_solve.specs.declared.solution.Value.{Value}
use Rattle.lfg_solve.specs.Found.{SomeOf, EachOf, LeadsBy, IsMemberIn, StandsBeside, IsFilled, IsFilledBy, HasFunctions, HasFunctionsOf, IsCompleteAt, Names, IsGovernedBy, IsCoherentAt}
use Rattle.lfg_solve.specs.Solves.{ClassOf, Solves}
use Rattle.lfg_solve.proofs.Tables.{one_at, one_place}

module _ (ls : List Literal) (s : Solution) (y : Solves ls s) where
  abbrev laws : IsOfClasses (solution ls)
  laws = solution_of_classes ls

  pub class_once : (x : Node) (i j : ℕ) → ClassOf s x i → ClassOf s x j → i ≡ j
  class_once x i j c d =
      let e : c.number ≡ d.number = one_place node_cmp node_cmp_total s.nodes.items c.number d.number x y.nodes.ascends c.node d.node in
      one_at s.classes d.number i j (subst (λ (n : ℕ). slice_get s.classes n ≡ Some i) e c.class) d.class

  pub one_class : (x z : Node) (i : ℕ) → ClassOf s x i → ClassOf s z i → SameNode ls x z
  one_class x z i c d = (y.same x z).1 (i, c, d)

  -- what is said of nodes, said of their classes
  pub class_of_value : (x : Node) (c : Constant) → HasValue ls x c → (i : ℕ) × ClassOf s x i × In (record { class = i; constant = c }) s.values.items
  class_of_value x c (value e i) = let r = (y.same x _).0 e in (r.0, r.1, (y.values r.0 c).1 (x, r.1, value e i))

  ends_of_arc : (x : Node) (a : Name) (t : Node) → HasArc ls x a t → ((i : ℕ) × ClassOf s x i) × ((j : ℕ) × ClassOf s t j)
  ends_of_arc x a t (arc e i f) = let r = (y.same x _).0 e in let q = (y.same _ t).0 f in ((r.0, r.1), (q.0, q.2))

  pub class_of_arc : (x : Node) (a : Name) (t : Node) → HasArc ls x a t
      → (i : ℕ) × (j : ℕ) × ClassOf s x i × ClassOf s t j × In (record { from = i; attribute = a; to = j }) s.arcs.items
  class_of_arc x a t h = let r = ends_of_arc x a t h in (r.0.0, r.1.0, r.0.1, r.1.1, (y.arcs r.0.0 a r.1.0).1 (x, t, r.0.1, r.1.1, h))

  ends_of_member : (x k : Node) → HasMember ls x k → ((i : ℕ) × ClassOf s x i) × ((m : ℕ) × ClassOf s k m)
  ends_of_member x k (member e i f) = let r = (y.same x _).0 e in let q = (y.same _ k).0 f in ((r.0, r.1), (q.0, q.2))

  pub class_of_member : (x k : Node) → HasMember ls x k → (i : ℕ) × (m : ℕ) × ClassOf s x i × ClassOf s k m × In (record { item = m; set = i }) s.members.items
  class_of_member x k h = let r = ends_of_member x k h in (r.0.0, r.1.0, r.0.1, r.1.1, (y.members r.1.0 r.0.0).1 (k, x, r.1.1, r.0.1, h))

  -- and back
  pub value_of_class : (x : Node) (i : ℕ) (c : Constant) → ClassOf s x i → In (record { class = i; constant = c }) s.values.items → HasValue ls x c
  value_of_class x i c k h = let r = (y.values i c).0 h in laws.value r.0 x c (one_class x r.0 i k r.1) r.2

  pub arc_of_class : (x : Node) (i : ℕ) (a : Name) (t : Node) (j : ℕ) → ClassOf s x i → ClassOf s t j → In (record { from = i; attribute = a; to = j }) s.arcs.items → HasArc ls x a t
  arc_of_class x i a t j c d h = let r = (y.arcs i a j).0 h in laws.arc r.0 x a r.1 t (one_class x r.0 i c r.2) r.4 (one_class r.1 t j r.3 d)

  pub arc_from_class : (x : Node) (i : ℕ) (a : Name) (j : ℕ) → ClassOf s x i → In (record { from = i; attribute = a; to = j }) s.arcs.items → (t : Node) × ClassOf s t j × HasArc ls x a t
  arc_from_class x i a j c h = let r = (y.arcs i a j).0 h in (r.1, r.3, arc_of_class x i a r.1 j c r.3 h)

  pub member_of_class : (x : Node) (i : ℕ) (k : Node) (m : ℕ) → ClassOf s x i → ClassOf s k m → In (record { item = m; set = i }) s.members.items → HasMember ls x k
  member_of_class x i k m c d h = let r = (y.members m i).0 h in laws.member r.1 x r.0 k (one_class x r.1 i c r.3) r.4 (one_class r.0 k m r.2 d)

  pub member_from_class : (x : Node) (i : ℕ) (m : ℕ) → ClassOf s x i → In (record { item = m; set = i }) s.members.items → (k : Node) × ClassOf s k m × HasMember ls x k
  member_from_class x i m c h = let r = (y.members m i).0 h in (r.0, r.2, member_of_class x i r.0 m c r.2 h)

  -- ---- clashes

  abbrev Beside : Value → Type 0
  Beside = StandsBeside s.values.items s.arcs.items s.members.items

  clash_forth : SomeOf Beside s.values.items → Clash (solution ls)
  clash_forth h = go ((y.values h.at.class h.at.constant).0 h.listed) h.holds
    where
      go : ((x : Node) × ClassOf s x h.at.class × HasValue ls x h.at.constant) → Beside h.at → Clash (solution ls)
      go r (inl o) =
          let k : In (record { class = h.at.class; constant = o.at.constant }) s.values.items = subst (λ (n : ℕ). In (record { class = n; constant = o.at.constant }) s.values.items) o.holds.of o.listed in
          two_values r.2 (value_of_class r.0 h.at.class o.at.constant r.1 k) (λ e. o.holds.differs (sym e))
      go r (inr (inl o)) =
          let k : In (record { from = h.at.class; attribute = o.at.attribute; to = o.at.to }) s.arcs.items = subst (λ (n : ℕ). In (record { from = n; attribute = o.at.attribute; to = o.at.to }) s.arcs.items) o.holds o.listed in
          let t = arc_from_class r.0 h.at.class o.at.attribute o.at.to r.1 k in
          beside_arc r.2 t.2
      go r (inr (inr o)) =
          let k : In (record { item = o.at.item; set = h.at.class }) s.members.items = subst (λ (n : ℕ). In (record { item = o.at.item; set = n }) s.members.items) o.holds o.listed in
          let t = member_from_class r.0 h.at.class o.at.item r.1 k in
          beside_member r.2 t.2

  clash_back : Clash (solution ls) → SomeOf Beside s.values.items
  clash_back (two_values {x} {c} {d} v w differ) =
      let p = class_of_value x c v in
      let q = class_of_value x d w in
      record {
        at = record { class = p.0; constant = c };
        listed = p.2;
        holds = inl (record { at = record { class = q.0; constant = d }; listed = q.2; holds = record { of = class_once x q.0 p.0 q.1 p.1; differs = λ e. differ (sym e) } });
      }
  clash_back (beside_arc {x} {t} {a} {c} v h) =
      let p = class_of_value x c v in
      let q = class_of_arc x a t h in
      record {
        at = record { class = p.0; constant = c };
        listed = p.2;
        holds = inr (inl (record { at = record { from = q.0; attribute = a; to = q.1 }; listed = q.4; holds = class_once x q.0 p.0 q.2 p.1 }));
      }
  clash_back (beside_member {x} {m} {c} v h) =
      let p = class_of_value x c v in
      let q = class_of_member x m h in
      record {
        at = record { class = p.0; constant = c };
        listed = p.2;
        holds = inr (inr (record { at = record { item = q.1; set = q.0 }; listed = q.4; holds = class_once x q.0 p.0 q.2 p.1 }));
      }

  pub clash_by_numbers : (r : Bool) → (IsTrue r ↔ SomeOf (StandsBeside s.values.items s.arcs.items s.members.items) s.values.items) → IsTrue r ↔ Clash (solution ls)
  clash_by_numbers r t = (λ e. clash_forth (t.0 e), λ c. t.1 (clash_back c))

  -- ---- completeness

  abbrev arc_of : ℕ → Name → ℕ → Arc
  arc_of i a j = record { from = i; attribute = a; to = j }

  leads_at : (i : ℕ) (a : Name) (e : Arc) → In e s.arcs.items → LeadsBy i a e → In (arc_of i a e.to) s.arcs.items
  leads_at i a e h l = subst (λ (r : Arc). In r s.arcs.items) (λ k. record { from = l.start k; attribute = l.name k; to = e.to }) h

  value_for : (j : ℕ) (v : Value) → In v s.values.items → v.class ≡ j → In (record { class = j; constant = v.constant }) s.values.items
  value_for j v h e = subst (λ (n : ℕ). In (record { class = n; constant = v.constant }) s.values.items) e h

  filled_forth : (t : Node) (j : ℕ) → ClassOf s t j → IsFilled s.arcs.items s.members.items j → HasPred (solution ls) t ⊎ IsSet (solution ls) t
  filled_forth t j c (inl p) = let u = arc_from_class t j pred p.at.to c (leads_at j pred p.at p.listed p.holds) in inl (u.0, u.2)
  filled_forth t j c (inr m) =
      let k : In (record { item = m.at.item; set = j }) s.members.items = subst (λ (n : ℕ). In (record { item = m.at.item; set = n }) s.members.items) m.holds m.listed in
      let u = member_from_class t j m.at.item c k in
      inr (u.0, u.2)

  pred_back : (t : Node) (j : ℕ) → ClassOf s t j → HasPred (solution ls) t → SomeOf (LeadsBy j pred) s.arcs.items
  pred_back t j c h =
      let r = class_of_arc t pred h.0 h.1 in
      record { at = arc_of r.0 pred r.1; listed = r.4; holds = record { start = class_once t r.0 j r.2 c; name = refl } }

  set_back : (t : Node) (j : ℕ) → ClassOf s t j → IsSet (solution ls) t → SomeOf (IsMemberIn j) s.members.items
  set_back t j c h =
      let r = class_of_member t h.0 h.1 in
      record { at = record { item = r.1; set = r.0 }; listed = r.4; holds = class_once t r.0 j r.2 c }

  set_forth : (t : Node) (j : ℕ) → ClassOf s t j → SomeOf (IsMemberIn j) s.members.items → IsSet (solution ls) t
  set_forth t j c m =
      let k : In (record { item = m.at.item; set = j }) s.members.items = subst (λ (n : ℕ). In (record { item = m.at.item; set = n }) s.members.items) m.holds m.listed in
      let u = member_from_class t j m.at.item c k in
      (u.0, u.2)

  pred_forth : (t : Node) (j : ℕ) → ClassOf s t j → SomeOf (LeadsBy j pred) s.arcs.items → HasPred (solution ls) t
  pred_forth t j c p = let u = arc_from_class t j pred p.at.to c (leads_at j pred p.at p.listed p.holds) in (u.0, u.2)

  filled_back : (t : Node) (j : ℕ) → ClassOf s t j → HasPred (solution ls) t ⊎ IsSet (solution ls) t → IsFilled s.arcs.items s.members.items j
  filled_back t j c (inl p) = inl (pred_back t j c p)
  filled_back t j c (inr m) = inr (set_back t j c m)

  outer_forth : (x : Node) (i : ℕ) (g : Name) → ClassOf s x i → SomeOf (LeadsBy i g) s.arcs.items → (t : Node) × HasArc ls x g t
  outer_forth x i g c p = let u = arc_from_class x i g p.at.to c (leads_at i g p.at p.listed p.holds) in (u.0, u.2)

  outer_back : (x : Node) (i : ℕ) (g : Name) → ClassOf s x i → ((t : Node) × HasArc ls x g t) → SomeOf (LeadsBy i g) s.arcs.items
  outer_back x i g c h =
      let r = class_of_arc x g h.0 h.1 in
      record { at = arc_of r.0 g r.1; listed = r.4; holds = record { start = class_once x r.0 i r.2 c; name = refl } }

  inner_forth : (x : Node) (i : ℕ) (g : Name) → ClassOf s x i → SomeOf (IsFilledBy s.arcs.items s.members.items i g) s.arcs.items
      → (t : Node) × HasArc ls x g t × (HasPred (solution ls) t ⊎ IsSet (solution ls) t)
  inner_forth x i g c p =
      let u = arc_from_class x i g p.at.to c (leads_at i g p.at p.listed p.holds.leads) in
      (u.0, u.2, filled_forth u.0 p.at.to u.1 p.holds.filled)

  inner_back : (x : Node) (i : ℕ) (g : Name) → ClassOf s x i → ((t : Node) × HasArc ls x g t × (HasPred (solution ls) t ⊎ IsSet (solution ls) t))
      → SomeOf (IsFilledBy s.arcs.items s.members.items i g) s.arcs.items
  inner_back x i g c h =
      let r = class_of_arc x g h.0 h.1 in
      record {
        at = arc_of r.0 g r.1;
        listed = r.4;
        holds = record { leads = record { start = class_once x r.0 i r.2 c; name = refl }; filled = filled_back h.0 r.1 r.3 h.2 };
      }

  -- the form of a node, in numbers
  pub form_numbers : (x : Node) (form : Form) (h : HasForm (solution ls) x form)
      → (i : ℕ) × (j : ℕ) × ClassOf s x i × In (arc_of i pred j) s.arcs.items × In (record { class = j; constant = constant.Form form h.site h.index }) s.values.items
  form_numbers x form h =
      let r = class_of_arc x pred h.at h.by_pred in
      let v = class_of_value h.at (constant.Form form h.site h.index) h.is_value in
      let e : v.0 ≡ r.1 = class_once h.at v.0 r.1 v.1 r.3 in
      (r.0, r.1, r.2, r.4, subst (λ (n : ℕ). In (record { class = n; constant = constant.Form form h.site h.index }) s.values.items) e v.2)

  abbrev Complete : Type 0
  Complete = EachOf (IsCompleteAt s.values.items s.arcs.items s.members.items) s.arcs.items

  functions_of : Complete → (x : Node) (form : Form) (h : HasForm (solution ls) x form) → (i : ℕ) × ClassOf s x i × HasFunctions s.arcs.items s.members.items i form
  functions_of k x form h =
      let r = form_numbers x form h in
      (r.0, r.2, (k.each (arc_of r.0 pred r.1) r.3 refl).each (record { class = r.1; constant = constant.Form form h.site h.index }) r.4 refl)

  complete_forth : Complete → IsComplete (solution ls)
  complete_forth k = record {
    inner = λ x form g h m. let r = functions_of k x form h in inner_forth x r.0 g r.1 (r.2.inner.each g m);
    outer = λ x form g h m. let r = functions_of k x form h in outer_forth x r.0 g r.1 (r.2.outer.each g m);
  }

  functions_at : IsComplete (solution ls) → (x t : Node) (i j : ℕ) → ClassOf s x i → ClassOf s t j → HasArc ls x pred t → (c : Constant) → In (record { class = j; constant = c }) s.values.items
      → HasFunctionsOf s.arcs.items s.members.items i c
  functions_at k x t i j c d h (constant.Atom a) v = tt
  functions_at k x t i j c d h (constant.Form form site index) v =
      let f : HasForm (solution ls) x form = record { at = t; by_pred = h; site = site; index = index; is_value = value_of_class t j (constant.Form form site index) d v } in
      record {
        inner = record { each = λ g m. inner_back x i g c (k.inner x form g f m) };
        outer = record { each = λ g m. outer_back x i g c (k.outer x form g f m) };
      }

  complete_back : IsComplete (solution ls) → Complete
  complete_back k = record {
    each = λ e h is.
        let r = (y.arcs e.from pred e.to).0 (leads_at e.from pred e h (record { start = refl; name = is })) in
        record { each = λ v m of. functions_at k r.0 r.1 e.from e.to r.2 r.3 r.4 v.constant (value_for e.to v m of) };
  }

  pub complete_by_numbers : (r : Bool) → (IsTrue r ↔ EachOf (IsCompleteAt s.values.items s.arcs.items s.members.items) s.arcs.items) → IsTrue r ↔ IsComplete (solution ls)
  complete_by_numbers r t = (λ e. complete_forth (t.0 e), λ k. t.1 (complete_back k))

  -- ---- coherence

  names_forth : (x t : Node) (j : ℕ) (g : Name) → HasArc ls x pred t → ClassOf s t j → (c : Constant) → In (record { class = j; constant = c }) s.values.items → Names g c → IsGoverned (solution ls) x g
  names_forth x t j g h d (constant.Atom a) v n = absurd n
  names_forth x t j g h d (constant.Form form site index) v n =
      (form, record { at = t; by_pred = h; site = site; index = index; is_value = value_of_class t j (constant.Form form site index) d v }, n)

  governed_forth : (x : Node) (i : ℕ) (g : Name) → ClassOf s x i → SomeOf (IsGovernedBy s.values.items i g) s.arcs.items → IsGoverned (solution ls) x g
  governed_forth x i g c p =
      let u = arc_from_class x i pred p.at.to c (leads_at i pred p.at p.listed p.holds.leads) in
      let n = p.holds.names in
      names_forth x u.0 p.at.to g u.2 u.1 n.at.constant (value_for p.at.to n.at n.listed n.holds.of) n.holds.names

  governed_back : (x : Node) (i : ℕ) (g : Name) → ClassOf s x i → IsGoverned (solution ls) x g → SomeOf (IsGovernedBy s.values.items i g) s.arcs.items
  governed_back x i g c h =
      let r = form_numbers x h.0 h.1 in
      record {
        at = arc_of r.0 pred r.1;
        listed = r.3;
        holds = record {
          leads = record { start = class_once x r.0 i r.2 c; name = refl };
          names = record { at = record { class = r.1; constant = constant.Form h.0 h.1.site h.1.index }; listed = r.4; holds = record { of = refl; names = h.2 } };
        };
      }

  abbrev Coherent : List Name → Type 0
  Coherent governable = EachOf (IsCoherentAt governable s.values.items s.arcs.items s.members.items) s.arcs.items

  coherent_forth : (governable : List Name) → Coherent governable → IsCoherent (solution ls) governable
  coherent_forth governable k = record {
    each = λ x t g m h.
        let r = class_of_arc x g t h in
        elim (k.each (arc_of r.0 g r.1) r.4 m) [
          | inl p ↦ inl (governed_forth x r.0 g r.2 p)
          | inr e ↦ inr (set_forth x r.0 r.2 e.has_member, λ p. e.no_pred (pred_back x r.0 r.2 p))
        ];
  }

  coherent_back : (governable : List Name) → IsCoherent (solution ls) governable → Coherent governable
  coherent_back governable k = record {
    each = λ e h m.
        let r = (y.arcs e.from e.attribute e.to).0 h in
        elim (k.each r.0 r.1 e.attribute m r.4) [
          | inl p ↦ inl (governed_back r.0 e.from e.attribute r.2 p)
          | inr q ↦ inr (record { has_member = set_back r.0 e.from r.2 q.0; no_pred = λ p. q.1 (pred_forth r.0 e.from r.2 p) })
        ];
  }

  pub coherent_by_numbers : (governable : List Name) (r : Bool) → (IsTrue r ↔ EachOf (IsCoherentAt governable s.values.items s.arcs.items s.members.items) s.arcs.items)
      → IsTrue r ↔ IsCoherent (solution ls) governable
  coherent_by_numbers governable r t = (λ e. coherent_forth governable (t.0 e), λ k. t.1 (coherent_back governable k))
