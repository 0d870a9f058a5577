-- Where paths lead to, step by step.
use Rattle.std.proofs.Common.{◌≡◌, ℕ, zero, suc, ◌+◌, ◌<◌, ◌≤◌, ◌⊎◌, inl, inr, Bool, true, false, ◌&&◌, List, [], ◌∷◌, length, get_or, take, drop, subst, sym, refl, ◌∙◌, ap, arith, add-one, drop-cons}
use Rattle.std.proofs.lemmas.List.{drop_all, take_all}
use Rattle.std.specs.Prelude.{◌↔◌}
use Rattle.lfg_terms.specs.declared.node.Node.{Node}
use Rattle.lfg_model.specs.Lists.{In, here, later}
use Rattle.lfg_model.specs.Terms.{Name, Path}
use Rattle.lfg_model.specs.Solve.{LeadsTo}
use Rattle.lfg_model.proofs.ListLaws.{In-nil, In-take_more}
use Rattle.lfg_model.proofs.SolutionLaws.{LeadsTo-from}
use Rattle.lfg_context.specs.Seen.{Set, Known}
use Rattle.lfg_context.specs.Sets.{Assignment, member}
use Rattle.lfg_context.proofs.Telling.{and_true, and_from, In-take_one, In-take_last}
use Rattle.lfg_unify.specs.Closures.{Row, Closed, place_in, equal_at, equal_of, SameAt, closure_at}
use Rattle.lfg_unify.specs.Rows.{Stands, Widens}
use Rattle.lfg_constrain.specs.Spots.{IsClosure, IsMet, Touches, Joins, IsTaken, Steps, Begins, IsReached, IsAtNode, AreAtNodes, Follows, FollowsSome}
use Rattle.lfg_constrain.proofs.Classes.{classes_of, equal_known}

-- ---- the start

pub begins_absent : {c : Known} {k : Closed} (start : Node) (set : Set) → IsClosure c k → ¬ In start k.nodes → Begins k start set []
begins_absent start set m absent = record { each = λ a y. ((λ s. In-nil s.listed), (λ b. absurd (absent (equal_known a start start m b.2).0))) }

pub begins_there : (k : Closed) (start : Node) (set eq there : Set) (place : ℕ) (new : Row) → place ≡ place_in k.nodes start → eq ≡ equal_of k start start
    → ((a : Assignment) → member there a ≡ (member set a && member eq a)) → Widens [] place there new → Begins k start set new
begins_there k start set eq there place new p e m w = record {
  each = λ a y. (
    (λ s. elim ((w.each a y).0 s) [
      | inl n ↦ In-nil n.listed
      | inr q ↦ (let b = and_true (member set a) (member eq a) (sym (m a) ∙ q.1) in (q.0 ∙ p, b.0, ap (λ v. member v a) (sym e) ∙ b.1))
    ]),
    (λ b. (w.each a y).1 (inr (b.0 ∙ sym p, m a ∙ and_from _ _ b.1 (ap (λ v. member v a) e ∙ b.2)))),
  );
}

-- ---- on the way

-- what is left of the path leads on from the spots
pub record OnWay (k : Closed) (start : Node) (set : Set) (path rest : Path) (spots : Row) : Type 0 where
  pub there : AreAtNodes k spots
  pub each : (a : Assignment) (z : Node) → ((x : Node) × IsReached k spots a x × LeadsTo (closure_at k a) x rest z) ↔ ((member set a ≡ true) × LeadsTo (closure_at k a) start path z)

-- where a path leads somewhere, its start is there
leads_there : {c : Known} {k : Closed} (a : Assignment) (x : Node) (p : Path) (z : Node) → IsClosure c k → LeadsTo (closure_at k a) x p z → SameAt k a x x
leads_there a x [] z m h = let y = classes_of a m in y.joined x z x h (y.turned x z h)
leads_there a x (n ∷ p) z m h = let y = classes_of a m in let s = h.1.start in y.joined x h.1.from x s (y.turned x h.1.from s)

pub way_start : {c : Known} {k : Closed} (start : Node) (set : Set) (path : Path) (spots : Row) → IsClosure c k → Begins k start set spots → OnWay k start set path path spots
way_start {c} {k} start set path spots m b = record {
  there = record { each = λ a y s. let q = (b.each a y).0 s in record { node = start; is = sym q.0; same = q.2 } };
  each = λ a z. (
    (λ r. let q = (b.each a r.1.place).0 r.1.stands in
        let P : ℕ → Type 0 = λ v. member (equal_at k v (place_in k.nodes r.0)) a ≡ true in
        (q.1, LeadsTo-from (closure_at k a) (classes_of a m) r.0 start path z (subst P q.0 r.1.same) r.2)),
    (λ r. let t = leads_there a start path z m r.1 in
        (start, record { place = place_in k.nodes start; stands = (b.each a (place_in k.nodes start)).1 (refl, r.0, t); same = t }, r.1)),
  );
}

-- the node at a spot is equal to what is reached there
pub at_spot : {k : Closed} {spots : Row} (a : Assignment) (x : Node) → AreAtNodes k spots → IsReached k spots a x → (n : Node) × (SameAt k a n x) × ((u : Node) → SameAt k a n u → IsReached k spots a u) × SameAt k a n n
at_spot {k} {spots} a x t r =
    let n = t.each a r.place r.stands in
    let P : ℕ → Type 0 = λ v. member (equal_at k v (place_in k.nodes x)) a ≡ true in
    (n.node, subst P (sym n.is) r.same, (λ u s. record { place = r.place; stands = r.stands; same = (let Q : ℕ → Type 0 = λ v. member (equal_at k v (place_in k.nodes u)) a ≡ true in subst Q n.is s) }), n.same)

pub way_step : {c : Known} {k : Closed} (start : Node) (set : Set) (path rest : Path) (name : Name) (spots new : Row) → IsClosure c k
    → OnWay k start set path (name ∷ rest) spots → Steps k k.arcs spots name new → OnWay k start set path rest new
way_step {c} {k} start set path rest name spots new m w s = record {
  there = record {
    each = λ a y h.
        let q = (s.each a y).0 h in
        record { node = q.item.2; is = q.holds.target; same = (m.is.there.arc a q.item.0 q.item.1 q.item.2 q.item.3 q.listed q.holds.touched.by_set).1 };
  };
  each = λ a z. (
    (λ r.
        let q = (s.each a r.1.place).0 r.1.stands in
        let t = m.is.there.arc a q.item.0 q.item.1 q.item.2 q.item.3 q.listed q.holds.touched.by_set in
        let met = q.holds.touched.met in
        let P : ℕ → Type 0 = λ v. member (equal_at k v (place_in k.nodes r.0)) a ≡ true in
        let Q : Name → Type 0 = λ v. In (q.item.0, v, q.item.2, q.item.3) k.arcs in
        (w.each a z).0 (
          q.item.0,
          record { place = met.item.0; stands = record { set = met.item.1; listed = met.listed; holds = met.holds.holds }; same = met.holds.same },
          (
            r.0,
            record {
              from = q.item.0;
              to = q.item.2;
              ctx = q.item.3;
              listed = subst Q q.holds.name_is q.listed;
              holds = q.holds.touched.by_set;
              start = t.0;
              end = subst P (sym q.holds.target) r.1.same;
            },
            r.2,
          ),
        )),
    (λ r.
        let q = (w.each a z).1 r in
        let arc = q.2.1 in
        let y = classes_of a m in
        let n = at_spot a q.0 w.there q.1 in
        let f = n.2 arc.from (y.joined n.0 q.0 arc.from n.1 arc.start) in (
          q.2.0,
          record {
            place = place_in k.nodes arc.to;
            stands = (s.each a (place_in k.nodes arc.to)).1 (record {
              item = (arc.from, name, arc.to, arc.ctx);
              listed = arc.listed;
              holds = record {
                name_is = refl;
                target = refl;
                touched = record { by_set = arc.holds; met = record { item = (f.place, f.stands.set); listed = f.stands.listed; holds = record { holds = f.stands.holds; same = f.same } } };
              };
            });
            same = arc.end;
          },
          q.2.2,
        )),
  );
}

pub way_more : {c : Known} {k : Closed} (start : Node) (set : Set) (path : Path) (i : ℕ) (name : Name) (spots new : Row) → IsClosure c k → i < length path → name ≡ get_or path i name
    → OnWay k start set path (drop i path) spots → Steps k k.arcs spots name new → OnWay k start set path (drop (i + 1) path) new
way_more {c} {k} start set path i name spots new m h is w s =
    let P : Path → Type 0 = λ v. OnWay k start set path v spots in
    way_step start set path (drop (i + 1) path) name spots new m (subst P cut w) s
  where
    cut : drop i path ≡ name ∷ drop (i + 1) path
    cut = let Q : Name → Type 0 = λ v. drop i path ≡ v ∷ drop (i + 1) path in subst Q (sym is) (rw (add-one, drop-cons path i name))

pub way_end : {c : Known} {k : Closed} (start : Node) (set : Set) (path : Path) (i : ℕ) (spots : Row) → IsClosure c k → length path ≤ i → OnWay k start set path (drop i path) spots → Follows k start set path spots
way_end {c} {k} start set path i spots m h w =
    let P : Path → Type 0 = λ v. OnWay k start set path v spots in
    let e = subst P (drop_all i path h) w in
    record {
      there = e.there;
      each = λ a z. (
        (λ r. let n = at_spot a z e.there r in (e.each a z).0 (n.0, n.2 n.0 n.3, n.1)),
        (λ r.
            let q = (e.each a z).1 r in
            let n = at_spot a q.0 e.there q.1 in
            let y = classes_of a m in
            n.2 z (y.joined n.0 q.0 z n.1 q.2)),
      );
    }

-- ---- along several paths

pub some_none : (k : Closed) (start : Node) (set : Set) → FollowsSome k start set [] []
some_none k start set = record {
  there = record { each = λ a y s. In-nil s.listed };
  each = λ a z. ((λ r. In-nil r.stands.listed), (λ r. In-nil r.1.1));
}

pub some_more : (k : Closed) (start : Node) (set : Set) (paths : List Path) (i : ℕ) (d : Path) (now spots new : Row) → i < length paths → d ≡ get_or paths i d
    → FollowsSome k start set (take i paths) now → Follows k start set d spots → Joins now spots new → FollowsSome k start set (take (i + 1) paths) new
some_more k start set paths i d now spots new h is f one j = record {
  there = record { each = λ a y s. elim ((j.each a y).0 s) [ inl p ↦ f.there.each a y p | inr p ↦ one.there.each a y p ] };
  each = λ a z. (
    (λ r. elim ((j.each a r.place).0 r.stands) [
      | inl p ↦ (let q = (f.each a z).0 (record { place = r.place; stands = p; same = r.same }) in (q.0, (q.1.0, In-take_one paths i d h q.1.1, q.1.2)))
      | inr p ↦ (let q = (one.each a z).0 (record { place = r.place; stands = p; same = r.same }) in (q.0, (d, last, q.1)))
    ]),
    (λ r. elim (In-take_more paths i d h r.1.1) [
      | inl l ↦ (let q = (f.each a z).1 (r.0, (r.1.0, l, r.1.2)) in record { place = q.place; stands = (j.each a q.place).1 (inl q.stands); same = q.same })
      | inr g ↦ (let P : Path → Type 0 = λ v. LeadsTo (closure_at k a) start v z in
          let q = (one.each a z).1 (r.0, subst P (g ∙ sym is) r.1.2) in record { place = q.place; stands = (j.each a q.place).1 (inr q.stands); same = q.same })
    ]),
  );
}
  where
    last : In d (take (i + 1) paths)
    last = let P : Path → Type 0 = λ v. In v (take (i + 1) paths) in subst P (sym is) (In-take_last paths i d h)

pub some_all : (k : Closed) (start : Node) (set : Set) (paths : List Path) (i : ℕ) (spots : Row) → length paths ≤ i → FollowsSome k start set (take i paths) spots → FollowsSome k start set paths spots
some_all k start set paths i spots h f = let P : List Path → Type 0 = λ v. FollowsSome k start set v spots in subst P (take_all i paths h) f
