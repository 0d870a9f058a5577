-- Where constraints are true.
use Rattle.std.proofs.Common.{◌≡◌, ℕ, ◌+◌, ◌<◌, ◌≤◌, ◌⊎◌, inl, inr, Bool, true, false, ◌&&◌, ◌||◌, not, List, [], ◌∷◌, length, get_or, take, subst, sym, refl, ◌∙◌, ap, arith}
use Rattle.std.specs.Prelude.{◌↔◌}
use Rattle.lfg_terms.specs.declared.node.Node.{Node}
use Rattle.lfg_terms.specs.declared.literal.Walk.{Walk}
use Rattle.lfg_terms.specs.declared.literal.Target.{Target}
use Rattle.lfg_terms.specs.declared.literal.Target.TheVariants as target
use Rattle.lfg_terms.specs.declared.literal.Check.{Check}
use Rattle.lfg_terms.specs.declared.literal.Check.TheVariants as check
use Rattle.lfg_terms.specs.declared.literal.Literal.{Literal}
use Rattle.lfg_model.specs.declared.constant.Constant.{Constant}
use Rattle.lfg_model.specs.declared.constant.Constant.TheVariants as constant
use Rattle.lfg_model.specs.Lists.{In, here, later}
use Rattle.lfg_model.specs.Terms.{Name, Path}
use Rattle.lfg_model.specs.Literals.{checks, checks_of}
use Rattle.lfg_model.specs.Solve.{solution, Agrees, LeadsSomewhere, Holds}
use Rattle.lfg_model.proofs.Alike.{alike_turned, holds_alike}
use Rattle.lfg_model.proofs.ListLaws.{In-one, In-nil, In-flat_map, In_from_flat_map}
use Rattle.lfg_context.specs.Seen.{Set, Known}
use Rattle.lfg_context.specs.Sets.{Assignment, member}
use Rattle.lfg_context.specs.Telling.{Tells, Excludes, InSome, OfAll}
use Rattle.lfg_context.proofs.Telling.{and_true, and_from, true_not_false, excludes_as, tells_as}
use Rattle.lfg_unify.specs.Closures.{Row, Closed, place_in, equal_at, SameAt, closure_at, IsClosureOf}
use Rattle.lfg_unify.specs.Rows.{Stands}
use Rattle.lfg_unify.specs.Holding.{holding}
use Rattle.lfg_unify.proofs.Closed.{holds_in, in_holds}
use Rattle.lfg_constrain.specs.Spots.{IsClosure, IsMet, Touches, IsReached, IsAtNode, AreAtNodes, FollowsSome}
use Rattle.lfg_constrain.specs.Checks.{AreSatisfied, IsValued, IsShared, IsCommon, Agreement, IsOn, fails_at, Passes, PassesAll}
use Rattle.lfg_constrain.proofs.Classes.{classes_of}
use Rattle.lfg_constrain.proofs.WalkLaws.{at_spot}

-- what some spot touches is reached
reached_by : {k : Closed} {spots : Row} {set : Set} (a : Assignment) (x : Node) → Touches k spots (place_in k.nodes x) set a → IsReached k spots a x
reached_by a x t = record { place = t.met.item.0; stands = record { set = t.met.item.1; listed = t.met.listed; holds = t.met.holds.holds }; same = t.met.holds.same }

-- what is reached is touched
touched_by : {k : Closed} {spots : Row} {set : Set} (a : Assignment) (x : Node) → member set a ≡ true → IsReached k spots a x → Touches k spots (place_in k.nodes x) set a
touched_by a x h r = record { by_set = h; met = record { item = (r.place, r.stands.set); listed = r.stands.listed; holds = record { holds = r.stands.holds; same = r.same } } }

-- what is equal to a reached node is reached
reached_same : {c : Known} {k : Closed} {spots : Row} (a : Assignment) (x u : Node) → IsClosure c k → AreAtNodes k spots → IsReached k spots a x → SameAt k a x u → IsReached k spots a u
reached_same a x u m t r s = let n = at_spot a x t r in let y = classes_of a m in n.2 u (y.joined n.0 x u n.1 s)

-- ---- an atom

pub atom_agrees : {c : Known} {k : Closed} (w : Walk) (name : Name) (set z : Set) (spots : Row) → IsClosure c k → FollowsSome k w.start set w.paths spots → Tells z (InSome k.values (IsValued k spots name))
    → Tells z (λ a. (member set a ≡ true) × Agrees (closure_at k a) w (target.Atom name))
atom_agrees {c} {k} w name set z spots m f t = tells_as t (λ a. (
  (λ s.
      let v = s.item in
      let P : Constant → Type 0 = λ x. In (v.0, x, v.2) k.values in
      let r = (f.each a v.0).0 (reached_by a v.0 s.holds.touched) in
      (r.0, (v.0, r.1, record { at = v.0; ctx = v.2; listed = subst P s.holds.is s.listed; holds = s.holds.touched.by_set; same = m.is.there.value a v.0 v.1 v.2 s.listed s.holds.touched.by_set }))),
  (λ g.
      let v = g.1.2 in
      let r = reached_same a g.1.0 v.at m f.there ((f.each a g.1.0).1 (g.0, g.1.1)) v.same in
      record { item = (v.at, constant.Atom name, v.ctx); listed = v.listed; holds = record { is = refl; touched = touched_by a v.at v.holds r } }),
))

-- ---- where another walk leads to

walk_agrees_at : {c : Known} {k : Closed} (w v : Walk) (set : Set) (left right : Row) (a : Assignment) → IsClosure c k → FollowsSome k w.start set w.paths left → FollowsSome k v.start set v.paths right
    → Agreement k left right a → (member set a ≡ true) × Agrees (closure_at k a) w (target.Walk v)
walk_agrees_at {c} {k} w v set left right a m f g s = elim s.agree [
  | inl e ↦ (
      let spot = e.item in
      let there = e.holds.touched in
      let n = g.there.each a spot.0 (record { set = spot.1; listed = e.listed; holds = there.by_set }) in
      let P : ℕ → Type 0 = λ p. member (equal_at k p (place_in k.nodes n.node)) a ≡ true in
      let Q : ℕ → Type 0 = λ p. Touches k left p spot.1 a in
      let l = (f.each a n.node).0 (reached_by a n.node (subst Q (sym n.is) there)) in
      let r = (g.each a n.node).0 (record { place = spot.0; stands = record { set = spot.1; listed = e.listed; holds = there.by_set }; same = subst P n.is n.same }) in
      (l.0, (n.node, n.node, l.1, r.1, inl n.same)))
  | inr e ↦ (
      let x = e.item in
      let y = e.holds.right_has.item in
      let P : Constant → Type 0 = λ q. In (x.0, q, x.2) k.values in
      let Q : Constant → Type 0 = λ q. In (y.0, q, y.2) k.values in
      let there = e.holds.right_has.holds in
      let l = (f.each a x.0).0 (reached_by a x.0 e.holds.left_has) in
      let r = (g.each a y.0).0 (reached_by a y.0 there.touched) in (
        l.0,
        (
          x.0,
          y.0,
          l.1,
          r.1,
          inr (
            e.holds.name,
            record { at = x.0; ctx = x.2; listed = subst P e.holds.is e.listed; holds = e.holds.left_has.by_set; same = m.is.there.value a x.0 x.1 x.2 e.listed e.holds.left_has.by_set },
            record { at = y.0; ctx = y.2; listed = subst Q there.is e.holds.right_has.listed; holds = there.touched.by_set; same = m.is.there.value a y.0 y.1 y.2 e.holds.right_has.listed there.touched.by_set },
          ),
        ),
      ))
]

agrees_walk_at : {c : Known} {k : Closed} (w v : Walk) (set : Set) (left right : Row) (a : Assignment) → IsClosure c k → FollowsSome k w.start set w.paths left → FollowsSome k v.start set v.paths right
    → member set a ≡ true → Agrees (closure_at k a) w (target.Walk v) → Agreement k left right a
agrees_walk_at {c} {k} w v set left right a m f g h s =
    let l = (f.each a s.0).1 (h, s.2) in
    let r = (g.each a s.1).1 (h, s.3) in
    record {
      agree = elim s.4 [
        | inl e ↦ inl (
            let n = at_spot a s.1 g.there r in
            let y = classes_of a m in
            let q = g.there.each a r.place r.stands in
            let P : ℕ → Type 0 = λ p. Touches k left p r.stands.set a in
            let same = reached_same a s.0 q.node m f.there l (y.joined s.0 s.1 q.node e (y.turned q.node s.1 (let Q : ℕ → Type 0 = λ p. member (equal_at k p (place_in k.nodes s.1)) a ≡ true in subst Q (sym q.is) r.same))) in
            record { item = (r.place, r.stands.set); listed = r.stands.listed; holds = record { touched = subst P q.is (touched_by a q.node r.stands.holds same) } })
        | inr e ↦ inr (
            let x = e.1 in
            let y = e.2 in
            record {
              item = (x.at, constant.Atom e.0, x.ctx);
              listed = x.listed;
              holds = record {
                name = e.0;
                is = refl;
                left_has = touched_by a x.at x.holds (reached_same a s.0 x.at m f.there l x.same);
                right_has = record {
                  item = (y.at, constant.Atom e.0, y.ctx);
                  listed = y.listed;
                  holds = record { is = refl; touched = touched_by a y.at y.holds (reached_same a s.1 y.at m g.there r y.same) };
                };
              };
            })
      ];
    }

pub walk_agrees : {c : Known} {k : Closed} (w v : Walk) (set z : Set) (left right : Row) → IsClosure c k → FollowsSome k w.start set w.paths left → FollowsSome k v.start set v.paths right
    → Tells z (Agreement k left right) → Tells z (λ a. (member set a ≡ true) × Agrees (closure_at k a) w (target.Walk v))
walk_agrees w v set z left right m f g t = tells_as t (λ a. ((λ s. walk_agrees_at w v set left right a m f g s), (λ s. agrees_walk_at w v set left right a m f g s.0 s.1)))

-- ---- somewhere

pub walk_leads : {c : Known} {k : Closed} (w : Walk) (set z : Set) (spots : Row) → IsClosure c k → FollowsSome k w.start set w.paths spots → Tells z (InSome spots IsOn)
    → Tells z (λ a. (member set a ≡ true) × LeadsSomewhere (closure_at k a) w)
walk_leads {c} {k} w set z spots m f t = tells_as t (λ a. (
  (λ s.
      let spot = s.item in
      let stands : Stands spots a spot.0 = record { set = spot.1; listed = s.listed; holds = s.holds.holds } in
      let n = f.there.each a spot.0 stands in
      let P : ℕ → Type 0 = λ p. member (equal_at k p (place_in k.nodes n.node)) a ≡ true in
      let r = (f.each a n.node).0 (record { place = spot.0; stands = stands; same = subst P n.is n.same }) in
      (r.0, (n.node, r.1))),
  (λ g.
      let r = (f.each a g.1.0).1 (g.0, g.1.1) in
      record { item = (r.place, r.stands.set); listed = r.stands.listed; holds = record { holds = r.stands.holds } }),
))

-- ---- plain and negated constraints

agreed : (p q : Bool) → p ≡ true → (p && not q) ≡ false → q ≡ true
agreed p q f g = grind arith

none_left : (p q : Bool) → (p ≡ true → q ≡ true) → (p && not q) ≡ false
none_left true q f = ap not (f refl)
none_left false q f = refl

not_here : (p : Bool) → (p ≡ true → ⊥) → p ≡ false
not_here true f = absurd (f refl)
not_here false f = refl

pub same_passes : (k : Closed) (negated : Bool) (w : Walk) (t : Target) (set plain z : Set) → Tells plain (λ a. (member set a ≡ true) × Agrees (closure_at k a) w t)
    → ((a : Assignment) → member z a ≡ fails_at negated (member set a) (member plain a)) → Excludes z (Passes k (check.Same negated w t) set)
same_passes k true w t set plain z tells e = record {
  each = λ a. (
    (λ h. record { passes = λ on holds. true_not_false ((tells.each a).1 (on, holds)) (sym (e a) ∙ h) }),
    (λ p. e a ∙ not_here (member plain a) (λ h. let q = (tells.each a).0 h in p.passes q.0 q.1)),
  );
}
same_passes k false w t set plain z tells e = record {
  each = λ a. (
    (λ h. record { passes = λ on. ((tells.each a).0 (agreed (member set a) (member plain a) on (sym (e a) ∙ h))).1 }),
    (λ p. e a ∙ none_left (member set a) (member plain a) (λ on. (tells.each a).1 (on, p.passes on))),
  );
}

pub exists_passes : (k : Closed) (negated : Bool) (w : Walk) (set plain z : Set) → Tells plain (λ a. (member set a ≡ true) × LeadsSomewhere (closure_at k a) w)
    → ((a : Assignment) → member z a ≡ fails_at negated (member set a) (member plain a)) → Excludes z (Passes k (check.Exists negated w) set)
exists_passes k true w set plain z tells e = record {
  each = λ a. (
    (λ h. record { passes = λ on holds. true_not_false ((tells.each a).1 (on, holds)) (sym (e a) ∙ h) }),
    (λ p. e a ∙ not_here (member plain a) (λ h. let q = (tells.each a).0 h in p.passes q.0 q.1)),
  );
}
exists_passes k false w set plain z tells e = record {
  each = λ a. (
    (λ h. record { passes = λ on. ((tells.each a).0 (agreed (member set a) (member plain a) on (sym (e a) ∙ h))).1 }),
    (λ p. e a ∙ none_left (member set a) (member plain a) (λ on. (tells.each a).1 (on, p.passes on))),
  );
}

-- ---- all literals

pub one_check : (k : Closed) (l : Literal × Set) (c : Check) (z : Set) → checks_of l.0 ≡ c ∷ [] → Excludes z (Passes k c l.1) → Excludes z (PassesAll k l)
one_check k l c z e t = excludes_as t (λ a. (
  (λ p. record { each = λ d i. (let P : Check → Type 0 = λ v. Passes k v l.1 a in subst P (sym (In-one (let Q : List Check → Type 0 = λ v. In d v in subst Q e i))) p) }),
  (λ p. p.each c (let Q : List Check → Type 0 = λ v. In c v in subst Q (sym e) here)),
))

pub no_check : (k : Closed) (l : Literal × Set) (a : Assignment) → checks_of l.0 ≡ [] → PassesAll k l a
no_check k l a e = record { each = λ d i. In-nil (let Q : List Check → Type 0 = λ v. In d v in subst Q e i) }

pub all_pass : {c : Known} {literals : List (Literal × Set)} {k : Closed} {z : Set} → IsClosureOf c literals k → Excludes z (OfAll literals (PassesAll k)) → Excludes z (AreSatisfied literals)
all_pass {c} {literals} {k} m t = excludes_as t (λ a. (
  (λ s. record {
    each = λ d i.
        let l = In_from_flat_map checks_of (holding literals a) i in
        let h = in_holds literals a l.0 l.1 in
        holds_alike (closure_at k a) (solution (holding literals a)) (m.alike a) d (((s.each (l.0, h.0) h.1).each d l.2).passes h.2);
  }),
  (λ s. record {
    each = λ l i. record {
      each = λ d j. record {
        passes = λ h.
            holds_alike (solution (holding literals a)) (closure_at k a) (alike_turned (m.alike a)) d
            (s.each d (In-flat_map checks_of (holds_in literals a l.0 l.1 i h) j));
      };
    };
  }),
))

-- ---- atoms that both have

one_atom : (a b : Name) → constant.Atom a ≡ constant.Atom b → a ≡ b
one_atom a b e = cc

pub common_tells : (k : Closed) (left right : Row) (v : Node × Constant × Set) (p : ℕ) (name : Name) (near there z : Set) → v.1 ≡ constant.Atom name → p ≡ place_in k.nodes v.0
    → Tells near (Touches k left p v.2) → Tells there (InSome k.values (IsValued k right name)) → ((a : Assignment) → member z a ≡ (member near a && member there a)) → Tells z (IsCommon k left right v)
common_tells k left right v p name near there z is at t u m = record {
  each = λ a. (
    (λ h. let b = and_true (member near a) (member there a) (sym (m a) ∙ h) in
        let P : ℕ → Type 0 = λ q. Touches k left q v.2 a in
        record { name = name; is = is; left_has = subst P at ((t.each a).0 b.0); right_has = (u.each a).0 b.1 }),
    (λ s. let P : ℕ → Type 0 = λ q. Touches k left q v.2 a in
        let Q : Name → Type 0 = λ n. InSome k.values (IsValued k right n) a in
        m a ∙ and_from _ _ ((t.each a).1 (subst P (sym at) s.left_has)) ((u.each a).1 (subst Q (one_atom s.name name (sym s.is ∙ is)) s.right_has))),
  );
}

pub common_empty : (k : Closed) (left right : Row) (v : Node × Constant × Set) (p : ℕ) (near : Set) → p ≡ place_in k.nodes v.0
    → Tells near (Touches k left p v.2) → ((a : Assignment) → member near a ≡ false) → Tells near (IsCommon k left right v)
common_empty k left right v p near at t e = record {
  each = λ a. (
    (λ h. absurd (true_not_false h (e a))),
    (λ s. (t.each a).1 (let P : ℕ → Type 0 = λ q. Touches k left q v.2 a in subst P (sym at) s.left_has)),
  );
}

pub common_none : (k : Closed) (left right : Row) (v : Node × Constant × Set) (z : Set) → ((name : Name) → v.1 ≡ constant.Atom name → ⊥) → ((a : Assignment) → member z a ≡ false) → Tells z (IsCommon k left right v)
common_none k left right v z other e = record { each = λ a. ((λ h. absurd (true_not_false h (e a))), (λ s. absurd (other s.name s.is))) }

pub valued_tells : (k : Closed) (spots : Row) (name : Name) (v : Node × Constant × Set) (p : ℕ) (z : Set) → v.1 ≡ constant.Atom name → p ≡ place_in k.nodes v.0 → Tells z (Touches k spots p v.2) → Tells z (IsValued k spots name v)
valued_tells k spots name v p z is at t = tells_as t (λ a. (
  (λ h. record { is = is; touched = (let P : ℕ → Type 0 = λ q. Touches k spots q v.2 a in subst P at h) }),
  (λ s. let P : ℕ → Type 0 = λ q. Touches k spots q v.2 a in subst P (sym at) s.touched),
))

pub shared_tells : (k : Closed) (left : Row) (spot : ℕ × Set) (z : Set) → Tells z (Touches k left spot.0 spot.1) → Tells z (IsShared k left spot)
shared_tells k left spot z t = tells_as t (λ a. ((λ h. record { touched = h }), (λ s. s.touched)))

pub agreement_tells : (k : Closed) (left right : Row) (z : Set) → Tells z (λ a. InSome right (IsShared k left) a ⊎ InSome k.values (IsCommon k left right) a) → Tells z (Agreement k left right)
agreement_tells k left right z t = tells_as t (λ a. ((λ h. record { agree = h }), (λ s. s.agree)))

pub on_tells : (spot : ℕ × Set) → Tells spot.1 (IsOn spot)
on_tells spot = record { each = λ a. ((λ h. record { holds = h }), (λ s. s.holds)) }

pub valued_not : (k : Closed) (spots : Row) (name : Name) (v : Node × Constant × Set) (z : Set) → (v.1 ≡ constant.Atom name → ⊥) → ((a : Assignment) → member z a ≡ false) → Tells z (IsValued k spots name v)
valued_not k spots name v z other e = record { each = λ a. ((λ h. absurd (true_not_false h (e a))), (λ s. absurd (other s.is))) }

pub no_check_fails : (k : Closed) (l : Literal × Set) (z : Set) → checks_of l.0 ≡ [] → ((a : Assignment) → member z a ≡ false) → Excludes z (PassesAll k l)
no_check_fails k l z n e = record { each = λ a. ((λ h. no_check k l a n), (λ s. e a)) }
