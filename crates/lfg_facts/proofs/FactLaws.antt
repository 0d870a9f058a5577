-- The facts of the lists of a closure are those of the solution.
use Rattle.std.proofs.Common.{◌≡◌, ℕ, suc, ◌+◌, ◌<◌, ◌≤◌, true, ◌&&◌, ◌⊎◌, inl, inr, List, [], length, get_or, Some, refl, sym, ◌∙◌, ap, subst, arith}
use Rattle.std.specs.Prelude.{◌↔◌, slice_get, codes}
use Rattle.std.proofs.lemmas.Option.{same_Some, slice_get-get_or, slice_get_within}
use Rattle.lfg_terms.specs.declared.node.Node.{Node}
use Rattle.lfg_terms.specs.declared.node.Arg.{Arg}
use Rattle.lfg_terms.specs.declared.node.Fact.{Fact}
use Rattle.lfg_terms.specs.declared.grammar.Form.{Form}
use Rattle.lfg_terms.specs.declared.literal.Site.{Site}
use Rattle.lfg_model.specs.declared.constant.Constant.{Constant}
use Rattle.lfg_model.specs.declared.constant.Constant.TheVariants as constant
use Rattle.lfg_model.specs.Lists.{In}
use Rattle.lfg_model.specs.Terms.{Name}
use Rattle.lfg_model.specs.Solve.{pred, HasForm}
use Rattle.lfg_model.specs.Readings.{Called, IsFact, of_arc, of_member, of_inner, of_outer, has_attribute}
use Rattle.lfg_model.proofs.SolutionLaws.{Called-same}
use Rattle.lfg_context.specs.Seen.{Set, Known}
use Rattle.lfg_context.specs.Sets.{Assignment, member, AreMade}
use Rattle.lfg_context.specs.Telling.{InSome}
use Rattle.lfg_context.proofs.Telling.{and_true, and_from}
use Rattle.lfg_unify.specs.Closures.{Closed, place_in, equal_at, closure_at}
use Rattle.lfg_facts.specs.Adding.{IsClosure, Adds, AreSome}
use Rattle.lfg_facts.specs.Naming.{Names, AreNames}
use Rattle.lfg_facts.specs.Stating.{Entries, AreEntries, AreFactsOf, IsPair, IsPairOf, IsRelated, IsArcFact, IsMemberFact, function_fact, IsFunctionBelow, IsFunctionIn, IsOfForm, IsFormOf, IsFormFact, IsValueFact, IsPredOf, IsPredFact, IsListed}
use Rattle.lfg_facts.specs.Merging.{IsMerged}
use Rattle.lfg_facts.proofs.Classes.{classes_of}
use Rattle.lfg_facts.proofs.AddLaws.{adds_as, adds_both, adds_none, added_is}

-- ---- pairs

pub pair_adds : (relation : Name) (first : Arg) (second : Arg × Set) (here both : Set) (fact : Fact) (xs ys : Entries) → fact ≡ has_attribute relation first second.0 → ((a : Assignment) → member both a ≡ (member here a && member second.1 a))
    → Adds xs ys (λ f a. (f ≡ fact) × (member both a ≡ true)) → Adds xs ys (λ f. IsPair relation first here f second)
pair_adds relation first second here both fact xs ys is m h = adds_as (λ f a. (f ≡ fact) × (member both a ≡ true)) (λ f. IsPair relation first here f second) h (λ a f. (
  (λ w. let b = and_true (member here a) (member second.1 a) (sym (m a) ∙ w.1) in record { is = w.0 ∙ is; within = b.0; named = b.1 }),
  (λ p. (p.is ∙ sym is, m a ∙ and_from (member here a) (member second.1 a) p.within p.named)),
))

pub pairs_adds : (relation : Name) (first : Arg × Set) (seconds : Names) (here both : Set) (xs ys : Entries) → ((a : Assignment) → member both a ≡ (member here a && member first.1 a))
    → Adds xs ys (λ f. InSome seconds (IsPair relation first.0 both f)) → Adds xs ys (λ f. IsPairOf relation seconds here f first)
pairs_adds relation first seconds here both xs ys m h = adds_as (λ f. InSome seconds (IsPair relation first.0 both f)) (λ f. IsPairOf relation seconds here f first) h (λ a f. (
  (λ s. let b = and_true (member here a) (member first.1 a) (sym (m a) ∙ s.holds.within) in
      record { second = s.item.0; is = s.holds.is; within = b.0; named = b.1; other_named = record { set = s.item.1; listed = s.listed; holds = s.holds.named } }),
  (λ p. record { item = (p.second, p.other_named.set); listed = p.other_named.listed; holds = record { is = p.is; within = m a ∙ and_from (member here a) (member first.1 a) p.within p.named; named = p.other_named.holds } }),
))

pub related_adds : (relation : Name) (firsts seconds : Names) (good ctx here : Set) (xs ys : Entries) → ((a : Assignment) → member here a ≡ (member good a && member ctx a))
    → Adds xs ys (λ f. InSome firsts (IsPairOf relation seconds here f)) → Adds xs ys (IsRelated relation firsts seconds good ctx)
related_adds relation firsts seconds good ctx here xs ys m h = adds_as (λ f. InSome firsts (IsPairOf relation seconds here f)) (IsRelated relation firsts seconds good ctx) h (λ a f. (
  (λ s. let b = and_true (member good a) (member ctx a) (sym (m a) ∙ s.holds.within) in
      record { first = s.item.0; second = s.holds.second; is = s.holds.is; within = b.0; holds = b.1; named = record { set = s.item.1; listed = s.listed; holds = s.holds.named }; other_named = s.holds.other_named }),
  (λ r. record {
    item = (r.first, r.named.set);
    listed = r.named.listed;
    holds = record { second = r.second; is = r.is; within = m a ∙ and_from (member good a) (member ctx a) r.within r.holds; named = r.named.holds; other_named = r.other_named };
  }),
))

-- ---- functions

pub functions_none : (relation : Name) (functions : List Name) (c : Arg) (here : Set) (xs : Entries) → Adds xs xs (IsFunctionBelow 0 relation functions c here)
functions_none relation functions c here xs = adds_none xs (IsFunctionBelow 0 relation functions c here) (λ a f p. let l = p.below in omega arith)

pub functions_more : (n : ℕ) (relation : Name) (functions : List Name) (c : Arg) (here : Set) (g : Name) (fact : Fact) (xs ys zs : Entries) → n < length functions → g ≡ get_or functions n g → fact ≡ function_fact relation c (n + 1) g
    → Adds xs ys (IsFunctionBelow n relation functions c here) → Adds ys zs (λ f a. (f ≡ fact) × (member here a ≡ true)) → Adds xs zs (IsFunctionBelow (n + 1) relation functions c here)
functions_more n relation functions c here g fact xs ys zs l at is h one = adds_both (IsFunctionBelow n relation functions c here) (λ f a. (f ≡ fact) × (member here a ≡ true)) (IsFunctionBelow (n + 1) relation functions c here) h one (λ a f. (
  (λ s. elim s [
    | inl p ↦ record { numbered = p.numbered; below = (let b = p.below in omega arith); within = p.within }
    | inr q ↦ record { numbered = record { number = n; function = g; at = there; is = q.0 ∙ is ∙ ap (λ k. function_fact relation c k g) next }; below = omega arith; within = q.1 }
  ]),
  (λ p. elim (split p.numbered.number n p.below) [
    | inl b ↦ inl (record { numbered = p.numbered; below = b; within = p.within })
    | inr e ↦
        let same : p.numbered.function ≡ g = same_Some p.numbered.function g (sym p.numbered.at ∙ ap (λ k. slice_get functions k) e ∙ there) in
        inr (p.numbered.is ∙ ap (λ k. function_fact relation c (suc k) p.numbered.function) e ∙ ap (λ v. function_fact relation c (suc n) v) same ∙ sym (is ∙ ap (λ k. function_fact relation c k g) next), p.within)
  ]),
))
  where
    there : slice_get functions n ≡ Some g
    there = slice_get-get_or functions n g l ∙ ap (λ v. Some v) (sym at)

    next : n + 1 ≡ suc n
    next = omega arith

    split : (i j : ℕ) → i < j + 1 → (i < j) ⊎ (i ≡ j)
    split i j h = grind arith

pub functions_all : (n : ℕ) (relation : Name) (functions : List Name) (c : Arg) (here : Set) (xs ys : Entries) → length functions ≤ n → Adds xs ys (IsFunctionBelow n relation functions c here) → Adds xs ys (IsFunctionIn relation functions c here)
functions_all n relation functions c here xs ys l h = adds_as (IsFunctionBelow n relation functions c here) (IsFunctionIn relation functions c here) h (λ a f. (
  (λ p. record { numbered = p.numbered; within = p.within }),
  (λ p. record { numbered = p.numbered; below = (let w = slice_get_within functions p.numbered.number p.numbered.function p.numbered.at in omega (arith, w, l)); within = p.within }),
))

pub form_more : (form : Form) (here both : Set) (name : Arg × Set) (xs ys zs : Entries) → ((a : Assignment) → member both a ≡ (member here a && member name.1 a))
    → Adds xs ys (IsFunctionIn (codes "arg") form.inner name.0 both) → Adds ys zs (IsFunctionIn (codes "nonarg") form.outer name.0 both) → Adds xs zs (λ f. IsFormOf form here f name)
form_more form here both name xs ys zs m f g = adds_both (IsFunctionIn (codes "arg") form.inner name.0 both) (IsFunctionIn (codes "nonarg") form.outer name.0 both) (λ f. IsFormOf form here f name) f g (λ a v. (
  (λ s. elim s [
    | inl p ↦ (let b = parts a p.within in record { states = inl p.numbered; within = b.0; named = b.1 })
    | inr p ↦ (let b = parts a p.within in record { states = inr p.numbered; within = b.0; named = b.1 })
  ]),
  (λ p. elim p.states [
    | inl n ↦ inl (record { numbered = n; within = whole a p.within p.named })
    | inr n ↦ inr (record { numbered = n; within = whole a p.within p.named })
  ]),
))
  where
    parts : (a : Assignment) → member both a ≡ true → (member here a ≡ true) × (member name.1 a ≡ true)
    parts a h = and_true (member here a) (member name.1 a) (sym (m a) ∙ h)

    whole : (a : Assignment) → member here a ≡ true → member name.1 a ≡ true → member both a ≡ true
    whole a h n = m a ∙ and_from (member here a) (member name.1 a) h n

pub form_adds : (form : Form) (names : Names) (here : Set) (xs ys : Entries) → Adds xs ys (λ f. InSome names (IsFormOf form here f)) → Adds xs ys (IsFormFact form names here)
form_adds form names here xs ys h = adds_as (λ f. InSome names (IsFormOf form here f)) (IsFormFact form names here) h (λ a f. (
  (λ s. record { name = s.item.0; named = record { set = s.item.1; listed = s.listed; holds = s.holds.named }; within = s.holds.within; states = s.holds.states }),
  (λ p. record { item = (p.name, p.named.set); listed = p.named.listed; holds = record { states = p.states; within = p.within; named = p.named.holds } }),
))

form_one : (f g : Form) (s t : Site) (i j : ℕ) → constant.Form f s i ≡ constant.Form g t j → f ≡ g
form_one f g s t i j e = cc

not_form : (n : Name) (g : Form) (t : Site) (j : ℕ) → constant.Atom n ≡ constant.Form g t j → ⊥
not_form n g t j e = cc

pub value_adds : (k : Closed) (place p : ℕ) (value : Node × Constant × Set) (form : Form) (site : Site) (index : ℕ) (names : Names) (here same held all : Set) (xs ys : Entries) → value.1 ≡ constant.Form form site index
    → p ≡ place_in k.nodes value.0 → same ≡ equal_at k place p → ((a : Assignment) → member held a ≡ (member same a && member value.2 a)) → ((a : Assignment) → member all a ≡ (member here a && member held a))
    → Adds xs ys (IsFormFact form names all) → Adds xs ys (λ f. IsValueFact k place names here f value)
value_adds k place p value form site index names here same held all xs ys is at at_is m n h = adds_as (IsFormFact form names all) (λ f. IsValueFact k place names here f value) h (λ a f. (
  (λ s.
      let b = and_true (member here a) (member held a) (sym (n a) ∙ s.within) in
      let d = and_true (member same a) (member value.2 a) (sym (m a) ∙ b.1) in
      record {
        form = form;
        site = site;
        index = index;
        is_form = is;
        holds = d.1;
        same = sym (ap (λ z. member z a) where_is) ∙ d.0;
        states = record { name = s.name; named = s.named; within = b.0; states = s.states };
      }),
  (λ v. record {
    name = v.states.name;
    named = v.states.named;
    within = n a ∙ and_from (member here a) (member held a) v.states.within (m a ∙ and_from (member same a) (member value.2 a) (ap (λ z. member z a) where_is ∙ v.same) v.holds);
    states = (let P : Form → Type 0 = λ w. IsOfForm w v.states.name f in subst P (form_one v.form form v.site site v.index index (sym v.is_form ∙ is)) v.states.states);
  }),
))
  where
    where_is : same ≡ equal_at k place (place_in k.nodes value.0)
    where_is = at_is ∙ ap (λ i. equal_at k place i) at

-- a value that is no form adds nothing
pub value_never : (k : Closed) (place : ℕ) (value : Node × Constant × Set) (names : Names) (here : Set) (xs : Entries) → ((form : Form) (site : Site) (index : ℕ) → value.1 ≡ constant.Form form site index → ⊥)
    → Adds xs xs (λ f. IsValueFact k place names here f value)
value_never k place value names here xs never = adds_none xs (λ f. IsValueFact k place names here f value) (λ a f v. never v.form v.site v.index v.is_form)

pub pred_adds : (k : Closed) (target : ℕ) (names : Names) (good here : Set) (arc : Node × Name × Node × Set) (xs ys : Entries) → arc.1 ≡ pred → ((a : Assignment) → member here a ≡ (member good a && member arc.3 a))
    → Adds xs ys (λ f. InSome k.values (IsValueFact k target names here f)) → Adds xs ys (λ f. IsPredOf k target names good f arc)
pred_adds k target names good here arc xs ys by m h = adds_as (λ f. InSome k.values (IsValueFact k target names here f)) (λ f. IsPredOf k target names good f arc) h (λ a f. (
  (λ s.
      let v = s.holds in
      let b = and_true (member good a) (member arc.3 a) (sym (m a) ∙ v.states.within) in
      record {
        by_pred = by;
        holds = b.1;
        value = record {
          item = s.item;
          listed = s.listed;
          holds = record {
            form = v.form;
            site = v.site;
            index = v.index;
            is_form = v.is_form;
            holds = v.holds;
            same = v.same;
            states = record { name = v.states.name; named = v.states.named; within = b.0; states = v.states.states };
          };
        };
      }),
  (λ p.
      let v = p.value.holds in
      record {
        item = p.value.item;
        listed = p.value.listed;
        holds = record {
          form = v.form;
          site = v.site;
          index = v.index;
          is_form = v.is_form;
          holds = v.holds;
          same = v.same;
          states = record { name = v.states.name; named = v.states.named; within = m a ∙ and_from (member good a) (member arc.3 a) v.states.within p.holds; states = v.states.states };
        };
      }),
))

pub pred_never : (k : Closed) (target : ℕ) (names : Names) (good : Set) (arc : Node × Name × Node × Set) (xs : Entries) → (arc.1 ≡ pred → ⊥) → Adds xs xs (λ f. IsPredOf k target names good f arc)
pred_never k target names good arc xs never = adds_none xs (λ f. IsPredOf k target names good f arc) (λ a f p. never p.by_pred)

-- ---- what is listed, as facts

module _ {c : Known} {k : Closed} (m : IsClosure c k) (table : List Names) (names : AreNames k table) (good : Set) (a : Assignment) where
  abbrev Goal : Fact → Type 0
  Goal f = (member good a ≡ true) × IsFact (closure_at k a) f

  arc_is_fact : (f : Fact) → InSome k.arcs (IsArcFact k table good f) a → Goal f
  arc_is_fact f s =
      let r = s.holds in
      let there = m.is.there.arc a s.item.0 s.item.1 s.item.2 s.item.3 s.listed r.holds in
      let P : Fact → Type 0 = λ v. IsFact (closure_at k a) v in (
        r.within,
        subst P (sym r.is) (of_arc
            (record { from = s.item.0; to = s.item.2; ctx = s.item.3; listed = s.listed; holds = r.holds; start = there.0; end = there.1 })
            ((names.each a s.item.0 r.first).0 r.named) ((names.each a s.item.2 r.second).0 r.other_named)),
      )

  member_is_fact : (f : Fact) → InSome k.members (IsMemberFact k table good f) a → Goal f
  member_is_fact f s =
      let r = s.holds in
      let there = m.is.there.member a s.item.0 s.item.1 s.item.2 s.listed r.holds in
      let P : Fact → Type 0 = λ v. IsFact (closure_at k a) v in (
        r.within,
        subst P (sym r.is) (of_member
            (record { item = s.item.0; set = s.item.1; ctx = s.item.2; listed = s.listed; holds = r.holds; same = there.1; is = there.0 })
            ((names.each a s.item.1 r.second).0 r.other_named) ((names.each a s.item.0 r.first).0 r.named)),
      )

  pred_is_fact : (f : Fact) → InSome k.arcs (IsPredFact k table good f) a → Goal f
  pred_is_fact f s =
      let r = s.holds in
      let there = m.is.there.arc a s.item.0 s.item.1 s.item.2 s.item.3 s.listed r.holds in
      let v = r.value.holds in
      let A : Name → Type 0 = λ n. In (s.item.0, n, s.item.2, s.item.3) k.arcs in
      let V : Constant → Type 0 = λ w. In (r.value.item.0, w, r.value.item.2) k.values in
      let P : Fact → Type 0 = λ w. IsFact (closure_at k a) w in
      let has : HasForm (closure_at k a) s.item.0 v.form = record {
        at = s.item.2;
        by_pred = record { from = s.item.0; to = s.item.2; ctx = s.item.3; listed = subst A r.by_pred s.listed; holds = r.holds; start = there.0; end = there.1 };
        site = v.site;
        index = v.index;
        is_value = record { at = r.value.item.0; ctx = r.value.item.2; listed = subst V v.is_form r.value.listed; holds = v.holds; same = v.same };
      } in
      let called = (names.each a s.item.0 v.states.name).0 v.states.named in (
        v.states.within,
        elim v.states.states [
          | inl n ↦ subst P (sym n.is) (of_inner n.number has called n.at)
          | inr n ↦ subst P (sym n.is) (of_outer n.number has called n.at)
        ],
      )

  -- a fact of a form is listed
  form_listed : (f : Fact) → member good a ≡ true → (x : Node) (form : Form) (n : Arg) → HasForm (closure_at k a) x form → Called (closure_at k a) x n → IsOfForm form n f → InSome k.arcs (IsPredFact k table good f) a
  form_listed f g x form n has called states =
      let y = closure_at k a in
      let classes = classes_of a m in
      let p = has.by_pred in
      let v = has.is_value in
      record {
        item = (p.from, pred, p.to, p.ctx);
        listed = p.listed;
        holds = record {
          by_pred = refl;
          holds = p.holds;
          value = record {
            item = (v.at, constant.Form form has.site has.index, v.ctx);
            listed = v.listed;
            holds = record {
              form = form;
              site = has.site;
              index = has.index;
              is_form = refl;
              holds = v.holds;
              same = classes.joined p.to has.at v.at p.end v.same;
              states = record {
                name = n;
                named = (names.each a p.from n).1 (Called-same y classes x p.from n (classes.turned x p.from p.start) called);
                within = g;
                states = states;
              };
            };
          };
        };
      }

  fact_listed : (f : Fact) → member good a ≡ true → IsFact (closure_at k a) f → IsListed k table good f a
  fact_listed _ g (of_arc {x} {t} {a = name} {c = n} {u} h cx ct) =
      let y = closure_at k a in
      let classes = classes_of a m in
      inl (record {
        item = (h.from, name, h.to, h.ctx);
        listed = h.listed;
        holds = record {
          first = n;
          second = u;
          is = refl;
          within = g;
          holds = h.holds;
          named = (names.each a h.from n).1 (Called-same y classes x h.from n (classes.turned x h.from h.start) cx);
          other_named = (names.each a h.to u).1 (Called-same y classes t h.to u h.end ct);
        };
      })
  fact_listed _ g (of_member {x} {m = i} {c = n} {u} h cx ci) =
      let y = closure_at k a in
      let classes = classes_of a m in
      inr (inl (record {
        item = (h.item, h.set, h.ctx);
        listed = h.listed;
        holds = record {
          first = u;
          second = n;
          is = refl;
          within = g;
          holds = h.holds;
          named = (names.each a h.item u).1 (Called-same y classes i h.item u h.is ci);
          other_named = (names.each a h.set n).1 (Called-same y classes x h.set n (classes.turned x h.set h.same) cx);
        };
      }))
  fact_listed _ g (of_inner {x} {c = n} {form} number {g = function} has called at) =
      inr (inr (form_listed _ g x form n has called (inl (record { number = number; function = function; at = at; is = refl }))))
  fact_listed _ g (of_outer {x} {c = n} {form} number {g = function} has called at) =
      inr (inr (form_listed _ g x form n has called (inr (record { number = number; function = function; at = at; is = refl }))))

  pub listed_facts : (f : Fact) → IsListed k table good f a ↔ ((member good a ≡ true) × IsFact (closure_at k a) f)
  listed_facts f = (
    (λ s. elim s [
      | inl p ↦ arc_is_fact f p
      | inr q ↦ elim q [ inl p ↦ member_is_fact f p | inr p ↦ pred_is_fact f p ]
    ]),
    (λ w. fact_listed f w.0 w.1),
  )

pub listed_by : (k : Closed) (table : List Names) (good : Set) (xs ys zs : Entries) → Adds [] xs (λ f. InSome k.arcs (IsArcFact k table good f)) → Adds xs ys (λ f. InSome k.members (IsMemberFact k table good f))
    → Adds ys zs (λ f. InSome k.arcs (IsPredFact k table good f)) → Adds [] zs (IsListed k table good)
listed_by k table good xs ys zs f g h = adds_both (λ v. InSome k.arcs (IsArcFact k table good v)) (λ v a. InSome k.members (IsMemberFact k table good v) a ⊎ InSome k.arcs (IsPredFact k table good v) a) (IsListed k table good) f
    (adds_both (λ v. InSome k.members (IsMemberFact k table good v)) (λ v. InSome k.arcs (IsPredFact k table good v)) (λ v a. InSome k.members (IsMemberFact k table good v) a ⊎ InSome k.arcs (IsPredFact k table good v) a) g h
    (λ a v. ((λ s. s), λ s. s))) (λ a v. ((λ s. s), λ s. s))

pub facts_are : {c : Known} {k : Closed} (m : IsClosure c k) (table : List Names) (good : Set) (entries facts : Entries) → AreNames k table → Adds [] entries (IsListed k table good) → IsMerged entries facts → AreFactsOf k good facts
facts_are {c} {k} m table good entries facts names adds merged = record {
  each = λ a f. (
    (λ s. (listed_facts m table names good a f).0 ((added_is (IsListed k table good) adds a f).0 ((merged.each a f).0 s))),
    (λ w. (merged.each a f).1 ((added_is (IsListed k table good) adds a f).1 ((listed_facts m table names good a f).1 w))),
  );
}

pub entries_some : {c : Known} {es : Entries} → AreEntries c es → AreSome es
entries_some m = record { each = λ e i. (m.each e i).some }

pub entries_made : {c : Known} {es : Entries} → AreEntries c es → AreMade c (λ e. e.1) es
entries_made m = record { each = λ e i. (m.each e i).made }
