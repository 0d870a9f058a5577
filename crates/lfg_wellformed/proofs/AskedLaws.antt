-- What the programs that ask for arcs, members and forms answer.
use Rattle.std.proofs.Common.{◌≡◌, ℕ, ◌+◌, ◌<◌, ◌≤◌, ◌⊎◌, inl, inr, Bool, true, false, ◌&&◌, ◌||◌, not, List, [], ◌∷◌, length, get_or, take, subst, sym, refl, ◌∙◌, ap, arith}
use Rattle.std.specs.Prelude.{◌↔◌}
use Rattle.lfg_terms.specs.declared.node.Node.{Node}
use Rattle.lfg_terms.specs.declared.grammar.Form.{Form}
use Rattle.lfg_terms.specs.declared.literal.Site.{Site}
use Rattle.lfg_model.specs.declared.constant.Constant.{Constant}
use Rattle.lfg_model.specs.declared.constant.Constant.TheVariants as constant
use Rattle.lfg_model.specs.Lists.{In}
use Rattle.lfg_model.specs.Terms.{Name}
use Rattle.lfg_model.specs.Solve.{pred}
use Rattle.lfg_context.specs.Seen.{Set, Known}
use Rattle.lfg_context.specs.Sets.{Assignment, member}
use Rattle.lfg_context.specs.Telling.{Tells, Excludes, InSome, OfAll}
use Rattle.lfg_context.proofs.Telling.{and_true, and_from, true_not_false, without_true, without_from, tells_as, excludes_as, tells_and, tells_without, excludes_or}
use Rattle.lfg_unify.specs.Closures.{Closed, place_in, equal_at}
use Rattle.lfg_wellformed.specs.Asked.{Arc, Value, Member, LeadsBy, HasArcBy, IsMemberIn, HasMemberIn, HasContent, IsFilling, NeedsFilled, NeedsArc, HasFunctions, CompletesValue, CompletesArc, Names, NamesAt, IsNaming, IsExempt, GovernsArc, CoheresAt}

-- membership in the context that `equal_at` answers
same_of : (k : Closed) (p : ℕ) {eq : Set} {q r : ℕ} (a : Assignment) → eq ≡ equal_at k p q → q ≡ r → member eq a ≡ true → member (equal_at k p r) a ≡ true
same_of k p {eq} {q} {r} a e f h = let P : ℕ → Type 0 = λ v. member (equal_at k p v) a ≡ true in subst P f (ap (λ v. member v a) (sym e) ∙ h)

of_same : (k : Closed) (p : ℕ) {eq : Set} {q r : ℕ} (a : Assignment) → eq ≡ equal_at k p q → q ≡ r → member (equal_at k p r) a ≡ true → member eq a ≡ true
of_same k p {eq} {q} {r} a e f h = let P : ℕ → Type 0 = λ v. member (equal_at k p v) a ≡ true in ap (λ v. member v a) e ∙ subst P (sym f) h

pub leads_tells : (k : Closed) (place : ℕ) (name : Name) (r : Arc) (from : ℕ) (eq z : Set) → r.1 ≡ name → eq ≡ equal_at k place from → from ≡ place_in k.nodes r.0
    → ((a : Assignment) → member z a ≡ (member r.3 a && member eq a)) → Tells z (LeadsBy k place name r)
leads_tells k place name r from eq z n e f m = record {
  each = λ a. (
    (λ h. let b = and_true (member r.3 a) (member eq a) (sym (m a) ∙ h) in record { name_is = n; holds = b.0; same = same_of k place a e f b.1 }),
    (λ s. m a ∙ and_from _ _ s.holds (of_same k place a e f s.same)),
  );
}

pub leads_not : (k : Closed) (place : ℕ) (name : Name) (r : Arc) (z : Set) → (r.1 ≡ name → ⊥) → ((a : Assignment) → member z a ≡ false) → Tells z (LeadsBy k place name r)
leads_not k place name r z n e = record { each = λ a. ((λ h. absurd (true_not_false h (e a))), (λ s. absurd (n s.name_is))) }

pub member_tells : (k : Closed) (place : ℕ) (m : Member) (set : ℕ) (eq z : Set) → eq ≡ equal_at k place set → set ≡ place_in k.nodes m.1
    → ((a : Assignment) → member z a ≡ (member m.2 a && member eq a)) → Tells z (IsMemberIn k place m)
member_tells k place m set eq z e f is = record {
  each = λ a. (
    (λ h. let b = and_true (member m.2 a) (member eq a) (sym (is a) ∙ h) in record { holds = b.0; same = same_of k place a e f b.1 }),
    (λ s. is a ∙ and_from _ _ s.holds (of_same k place a e f s.same)),
  );
}

pub content_tells : (k : Closed) (place : ℕ) (z : Set) → Tells z (λ a. HasArcBy k place pred a ⊎ HasMemberIn k place a) → Tells z (HasContent k place)
content_tells k place z t = tells_as t (λ a. ((λ h. record { content = h }), (λ s. s.content)))

pub filling_tells : (k : Closed) (place : ℕ) (name : Name) (r : Arc) (to : ℕ) (here content z : Set) → to ≡ place_in k.nodes r.2 → Tells here (LeadsBy k place name r) → Tells content (HasContent k to)
    → ((a : Assignment) → member z a ≡ (member here a && member content a)) → Tells z (IsFilling k place name r)
filling_tells k place name r to here content z f t u m = tells_as (tells_and t u m) (λ a. (
  (λ h. record { leads = h.0; content = (let P : ℕ → Type 0 = λ v. HasContent k v a in subst P f h.1) }),
  (λ s. (s.leads, (let P : ℕ → Type 0 = λ v. HasContent k v a in subst P (sym f) s.content))),
))

pub filling_empty : (k : Closed) (place : ℕ) (name : Name) (r : Arc) (here : Set) → Tells here (LeadsBy k place name r) → ((a : Assignment) → member here a ≡ false) → Tells here (IsFilling k place name r)
filling_empty k place name r here t e = record { each = λ a. ((λ h. absurd (true_not_false h (e a))), (λ s. (t.each a).1 s.leads)) }

-- ---- what is lacking

agreed : (p q : Bool) → p ≡ true → (p && not q) ≡ false → q ≡ true
agreed p q f g = grind arith

none_left : (p q : Bool) → (p ≡ true → q ≡ true) → (p && not q) ≡ false
none_left true q f = ap not (f refl)
none_left false q f = refl

pub needs_filled : (k : Closed) (place : ℕ) (set has z : Set) (name : Name) → Tells has (InSome k.arcs (IsFilling k place name)) → ((a : Assignment) → member z a ≡ (member set a && not (member has a))) → Excludes z (NeedsFilled k place set name)
needs_filled k place set has z name t m = record {
  each = λ a. (
    (λ h. record { needs = λ on. (t.each a).0 (agreed (member set a) (member has a) on (sym (m a) ∙ h)) }),
    (λ s. m a ∙ none_left (member set a) (member has a) (λ on. (t.each a).1 (s.needs on))),
  );
}

pub needs_arc : (k : Closed) (place : ℕ) (set has z : Set) (name : Name) → Tells has (HasArcBy k place name) → ((a : Assignment) → member z a ≡ (member set a && not (member has a))) → Excludes z (NeedsArc k place set name)
needs_arc k place set has z name t m = record {
  each = λ a. (
    (λ h. record { needs = λ on. (t.each a).0 (agreed (member set a) (member has a) on (sym (m a) ∙ h)) }),
    (λ s. m a ∙ none_left (member set a) (member has a) (λ on. (t.each a).1 (s.needs on))),
  );
}

pub has_functions : (k : Closed) (place : ℕ) (set inner outer z : Set) (form : Form) (xs ys : List Name) → xs ≡ form.inner → ys ≡ form.outer
    → Excludes inner (OfAll xs (NeedsFilled k place set)) → Excludes outer (OfAll ys (NeedsArc k place set))
    → ((a : Assignment) → member z a ≡ (member inner a || member outer a)) → Excludes z (HasFunctions k place set form)
has_functions k place set inner outer z form xs ys e f t u m =
    let P : List Name → Type 0 = λ v. Excludes inner (OfAll v (NeedsFilled k place set)) in
    let Q : List Name → Type 0 = λ v. Excludes outer (OfAll v (NeedsArc k place set)) in
    excludes_as (excludes_or (subst P e t) (subst Q f u) m) (λ a. ((λ h. record { inner = h.0; outer = h.1 }), (λ s. (s.inner, s.outer))))

-- ---- the forms to which PRED leads

one_form : (f g : Form) (s t : Site) (i j : ℕ) → constant.Form f s i ≡ constant.Form g t j → f ≡ g
one_form f g s t i j e = cc

pub completes_atom : (k : Closed) (r : Arc) (v : Value) (z : Set) → ((form : Form) (site : Site) (index : ℕ) → v.1 ≡ constant.Form form site index → ⊥) → ((a : Assignment) → member z a ≡ false) → Excludes z (CompletesValue k r v)
completes_atom k r v z n e = record { each = λ a. ((λ h. record { functions = λ form site index is on there same. absurd (n form site index is) }), (λ s. e a)) }

-- where the arc and the value hold and the arc leads to the value
pub record Meets (k : Closed) (r : Arc) (v : Value) (a : Assignment) : Type 0 where
  pub arc_holds : member r.3 a ≡ true
  pub value_holds : member v.2 a ≡ true
  pub same : member (equal_at k (place_in k.nodes r.2) (place_in k.nodes v.0)) a ≡ true

pub meets_tells : (k : Closed) (r : Arc) (v : Value) (to at : ℕ) (both eq here : Set) → to ≡ place_in k.nodes r.2 → at ≡ place_in k.nodes v.0 → eq ≡ equal_at k to at
    → ((a : Assignment) → member both a ≡ (member r.3 a && member v.2 a)) → ((a : Assignment) → member here a ≡ (member both a && member eq a)) → Tells here (Meets k r v)
meets_tells k r v to at both eq here t f e m n = record {
  each = λ a. (
    (λ h.
        let b = and_true (member both a) (member eq a) (sym (n a) ∙ h) in
        let d = and_true (member r.3 a) (member v.2 a) (sym (m a) ∙ b.0) in
        record { arc_holds = d.0; value_holds = d.1; same = same_of k (place_in k.nodes r.2) a moved f b.1 }),
    (λ s. n a ∙ and_from _ _ (m a ∙ and_from _ _ s.arc_holds s.value_holds) (of_same k (place_in k.nodes r.2) a moved f s.same)),
  );
}
  where
    moved : eq ≡ equal_at k (place_in k.nodes r.2) at
    moved = e ∙ ap (λ p. equal_at k p at) t

pub completes_none : (k : Closed) (r : Arc) (v : Value) (here : Set) → Tells here (Meets k r v) → ((a : Assignment) → member here a ≡ false) → Excludes here (CompletesValue k r v)
completes_none k r v here t e = record {
  each = λ a. (
    (λ h. record { functions = λ form site index is on there same. absurd (true_not_false ((t.each a).1 (record { arc_holds = on; value_holds = there; same = same })) (e a)) }),
    (λ s. e a),
  );
}

pub completes_form : (k : Closed) (r : Arc) (v : Value) (from : ℕ) (form : Form) (site : Site) (index : ℕ) (here z : Set) → v.1 ≡ constant.Form form site index → from ≡ place_in k.nodes r.0
    → Tells here (Meets k r v) → Excludes z (HasFunctions k from here form) → Excludes z (CompletesValue k r v)
completes_form k r v from form site index here z is f t u = excludes_as u (λ a. (
  (λ h. record {
    functions = λ form' site' index' is' on there same.
        let same_form : form ≡ form' = one_form form form' site site' index index' (sym is ∙ is') in
        let now = (t.each a).1 (record { arc_holds = on; value_holds = there; same = same }) in
        let P : ℕ → Type 0 = λ p. (g : Name) → In g form.inner → InSome k.arcs (IsFilling k p g) a in
        let Q : ℕ → Type 0 = λ p. (g : Name) → In g form.outer → HasArcBy k p g a in
        let R : Form → Type 0 = λ w. ((g : Name) → In g w.inner → InSome k.arcs (IsFilling k (place_in k.nodes r.0) g) a) × ((g : Name) → In g w.outer → HasArcBy k (place_in k.nodes r.0) g a) in
        subst R same_form (subst P f (λ g i. (h.inner.each g i).needs now), subst Q f (λ g i. (h.outer.each g i).needs now));
  }),
  (λ s.
      let all : Meets k r v a → ((g : Name) → In g form.inner → InSome k.arcs (IsFilling k (place_in k.nodes r.0) g) a) × ((g : Name) → In g form.outer → HasArcBy k (place_in k.nodes r.0) g a)
      = λ now. s.functions form site index is now.arc_holds now.value_holds now.same in
      record {
        inner = record { each = λ g i. record { needs = λ on. (let P : ℕ → Type 0 = λ p. InSome k.arcs (IsFilling k p g) a in subst P (sym f) ((all ((t.each a).0 on)).0 g i)) } };
        outer = record { each = λ g i. record { needs = λ on. (let P : ℕ → Type 0 = λ p. HasArcBy k p g a in subst P (sym f) ((all ((t.each a).0 on)).1 g i)) } };
      }),
))

pub completes_arc : (k : Closed) (r : Arc) (z : Set) → r.1 ≡ pred → Excludes z (OfAll k.values (CompletesValue k r)) → Excludes z (CompletesArc k r)
completes_arc k r z e t = excludes_as t (λ a. ((λ h. record { each = λ is. h }), (λ s. s.each e)))

pub completes_other : (k : Closed) (r : Arc) (z : Set) → (r.1 ≡ pred → ⊥) → ((a : Assignment) → member z a ≡ false) → Excludes z (CompletesArc k r)
completes_other k r z n e = record { each = λ a. ((λ h. record { each = λ is. absurd (n is) }), (λ s. e a)) }

-- ---- coherence

pub names_atom : (k : Closed) (place : ℕ) (name : Name) (v : Value) (z : Set) → ((form : Form) (site : Site) (index : ℕ) → v.1 ≡ constant.Form form site index → ⊥) → ((a : Assignment) → member z a ≡ false) → Tells z (NamesAt k place name v)
names_atom k place name v z n e = record { each = λ a. ((λ h. absurd (true_not_false h (e a))), (λ s. absurd (n s.form s.site s.index s.is))) }

pub names_other : (k : Closed) (place : ℕ) (name : Name) (v : Value) (form : Form) (site : Site) (index : ℕ) (z : Set) → v.1 ≡ constant.Form form site index → ¬ Names form name → ((a : Assignment) → member z a ≡ false) → Tells z (NamesAt k place name v)
names_other k place name v form site index z is n e = record {
  each = λ a. (
    (λ h. absurd (true_not_false h (e a))),
    (λ s. absurd (n (let P : Form → Type 0 = λ w. Names w name in subst P (one_form s.form form s.site site s.index index (sym s.is ∙ is)) s.names))),
  );
}

pub names_tells : (k : Closed) (place : ℕ) (name : Name) (v : Value) (form : Form) (site : Site) (index at : ℕ) (eq z : Set) → v.1 ≡ constant.Form form site index → Names form name → at ≡ place_in k.nodes v.0
    → eq ≡ equal_at k place at → ((a : Assignment) → member z a ≡ (member v.2 a && member eq a)) → Tells z (NamesAt k place name v)
names_tells k place name v form site index at eq z is n f e m = record {
  each = λ a. (
    (λ h. let b = and_true (member v.2 a) (member eq a) (sym (m a) ∙ h) in record { form = form; site = site; index = index; is = is; names = n; holds = b.0; same = same_of k place a e f b.1 }),
    (λ s. m a ∙ and_from _ _ s.holds (of_same k place a e f s.same)),
  );
}

pub naming_tells : (k : Closed) (place : ℕ) (name : Name) (r : Arc) (to : ℕ) (here there z : Set) → to ≡ place_in k.nodes r.2 → Tells here (LeadsBy k place pred r) → Tells there (InSome k.values (NamesAt k to name))
    → ((a : Assignment) → member z a ≡ (member here a && member there a)) → Tells z (IsNaming k place name r)
naming_tells k place name r to here there z f t u m = tells_as (tells_and t u m) (λ a. (
  (λ h. record { leads = h.0; named = (let P : ℕ → Type 0 = λ v. InSome k.values (NamesAt k v name) a in subst P f h.1) }),
  (λ s. (s.leads, (let P : ℕ → Type 0 = λ v. InSome k.values (NamesAt k v name) a in subst P (sym f) s.named))),
))

pub naming_empty : (k : Closed) (place : ℕ) (name : Name) (r : Arc) (here : Set) → Tells here (LeadsBy k place pred r) → ((a : Assignment) → member here a ≡ false) → Tells here (IsNaming k place name r)
naming_empty k place name r here t e = record { each = λ a. ((λ h. absurd (true_not_false h (e a))), (λ s. (t.each a).1 s.leads)) }

pub exempt_tells : (k : Closed) (place : ℕ) (set form z : Set) → Tells set (HasMemberIn k place) → Tells form (HasArcBy k place pred) → ((a : Assignment) → member z a ≡ (member set a && not (member form a))) → Tells z (IsExempt k place)
exempt_tells k place set form z t u m = tells_as (tells_without t u m) (λ a. ((λ h. record { has_member = h.0; no_pred = h.1 }), (λ s. (s.has_member, s.no_pred))))

-- where the arc holds and is neither governed nor exempt
neither : (p q r : Bool) → p ≡ true → ((p && not q) && not r) ≡ false → (q ≡ true) ⊎ (r ≡ true)
neither p q r f g = grind arith

one_of : (p q r : Bool) → (p ≡ true → (q ≡ true) ⊎ (r ≡ true)) → ((p && not q) && not r) ≡ false
one_of true true r f = refl
one_of true false true f = refl
one_of true false false f = elim (f refl) [ inl e ↦ (let no : false ≡ true = e in absurd (cc)) | inr e ↦ (let no : false ≡ true = e in absurd (cc)) ]
one_of false q r f = refl

pub governs_tells : (k : Closed) (r : Arc) (from : ℕ) (named left free z : Set) → from ≡ place_in k.nodes r.0 → Tells named (InSome k.arcs (IsNaming k from r.1)) → Tells free (IsExempt k from)
    → ((a : Assignment) → member left a ≡ (member r.3 a && not (member named a))) → ((a : Assignment) → member z a ≡ (member left a && not (member free a))) → Excludes z (GovernsArc k r)
governs_tells k r from named left free z f t u m n = record {
  each = λ a. (
    (λ h. record {
      governed = λ on.
          elim (neither (member r.3 a) (member named a) (member free a) on (sym (whole a) ∙ h)) [
            | inl q ↦ inl (let P : ℕ → Type 0 = λ p. InSome k.arcs (IsNaming k p r.1) a in subst P f ((t.each a).0 q))
            | inr q ↦ inr (let P : ℕ → Type 0 = λ p. IsExempt k p a in subst P f ((u.each a).0 q))
          ];
    }),
    (λ s. whole a ∙ one_of (member r.3 a) (member named a) (member free a) (λ on. elim (s.governed on) [
      | inl q ↦ inl ((t.each a).1 (let P : ℕ → Type 0 = λ p. InSome k.arcs (IsNaming k p r.1) a in subst P (sym f) q))
      | inr q ↦ inr ((u.each a).1 (let P : ℕ → Type 0 = λ p. IsExempt k p a in subst P (sym f) q))
    ])),
  );
}
  where
    whole : (a : Assignment) → member z a ≡ ((member r.3 a && not (member named a)) && not (member free a))
    whole a = n a ∙ ap (λ b. b && not (member free a)) (m a)

pub governs_named : (k : Closed) (r : Arc) (from : ℕ) (named left : Set) → from ≡ place_in k.nodes r.0 → Tells named (InSome k.arcs (IsNaming k from r.1))
    → ((a : Assignment) → member left a ≡ (member r.3 a && not (member named a))) → ((a : Assignment) → member left a ≡ false) → Excludes left (GovernsArc k r)
governs_named k r from named left f t m e = record {
  each = λ a. (
    (λ h. record { governed = λ on. inl (let P : ℕ → Type 0 = λ p. InSome k.arcs (IsNaming k p r.1) a in subst P f ((t.each a).0 (agreed (member r.3 a) (member named a) on (sym (m a) ∙ e a)))) }),
    (λ s. e a),
  );
}

pub coheres_tells : (k : Closed) (governable : List Name) (r : Arc) (z : Set) → In r.1 governable → Excludes z (GovernsArc k r) → Excludes z (CoheresAt k governable r)
coheres_tells k governable r z i t = excludes_as t (λ a. ((λ h. record { governed = λ j. h }), (λ s. s.governed i)))

pub coheres_other : (k : Closed) (governable : List Name) (r : Arc) (z : Set) → ¬ In r.1 governable → ((a : Assignment) → member z a ≡ false) → Excludes z (CoheresAt k governable r)
coheres_other k governable r z n e = record { each = λ a. ((λ h. record { governed = λ i. absurd (n i) }), (λ s. e a)) }
