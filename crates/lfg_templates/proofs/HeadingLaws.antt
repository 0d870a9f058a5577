-- What is known of a name, as heads come behind one another.
use Rattle.std.proofs.Common.{◌≡◌, ◌≢◌, ◌+◌, ◌<◌, length, take, get_or, ℕ, Bool, true, false, cond, Option, Some, None, List, [], ◌∷◌, ◌++◌, refl, sym, ap, ◌∙◌, subst, inl, inr}
use Rattle.std.proofs.lemmas.List.{take_more}
use Rattle.std.specs.List.{list_any}
use Rattle.std.specs.Map.{lookup}
use Rattle.indexmap.specs.IndexMap.{IndexMap, get, Updates, IsEmpty}
use Rattle.indexmap.specs.IndexSet as set
use Rattle.indexmap.specs.IndexSet.{IndexSet, contains}
use Rattle.lfg_model.specs.Lists.{In}
use Rattle.lfg_model.specs.Terms.{Name, same_name}
use Rattle.lfg_model.specs.TemplateRules.{Head, HeadsBefore}
use Rattle.lfg_model.proofs.ListLaws.{In-push_cases, In-push, In-append_left}
use Rattle.lfg_templates.specs.declared.heads.Heading.{Heading}
use Rattle.lfg_templates.specs.Headings.{HeadsEntry, IsHeading, Tells, AreHeadings}
use Rattle.lfg_templates.proofs.SameNames.{equal_from_same, same_from_equal}

-- ---- one name

earlier_heads : (hs : List Head) (h : Head) (name : Name) (x : Head) → HeadsEntry hs name x → HeadsEntry (hs ++ h ∷ []) name x
earlier_heads hs h name x k = record { among = In-append_left (h ∷ []) k.among; named = k.named }

itself_heads : (hs : List Head) (h : Head) → HeadsEntry (hs ++ h ∷ []) h.name h
itself_heads hs h = record { among = In-push hs h; named = refl }

-- a name that headed nothing before
pub heading_first : (hs : List Head) (h : Head) (entry : ℕ) → h.entry ≡ entry → Tells hs h.name None → IsHeading (hs ++ h ∷ []) h.name (record { entry = entry; again = false })
heading_first hs h entry e t = record {
  one = h;
  heads_one = itself_heads hs h;
  entry = e;
  another = λ a. absurd (let no : ⊥ = cc in no);
  alone = λ a x k. elim (In-push_cases hs h k.among) [ inl b ↦ absurd (t x (record { among = b; named = k.named })) | inr f ↦ ap (λ (y : Head). y.entry) f ∙ e ];
}

-- one that headed this entry
pub heading_same : (hs : List Head) (h : Head) (x : Heading) → h.entry ≡ x.entry → IsHeading hs h.name x → IsHeading (hs ++ h ∷ []) h.name x
heading_same hs h x e i = record {
  one = i.one;
  heads_one = earlier_heads hs h h.name i.one i.heads_one;
  entry = i.entry;
  another = λ a. let r = i.another a in (r.0, earlier_heads hs h h.name r.0 r.1, r.2);
  alone = λ a y k. elim (In-push_cases hs h k.among) [ inl b ↦ i.alone a y (record { among = b; named = k.named }) | inr f ↦ ap (λ (z : Head). z.entry) f ∙ e ];
}

-- one that headed another
pub heading_again : (hs : List Head) (h : Head) (x : Heading) → (h.entry ≡ x.entry → ⊥) → IsHeading hs h.name x → IsHeading (hs ++ h ∷ []) h.name (record { entry = x.entry; again = true })
heading_again hs h x n i = record {
  one = i.one;
  heads_one = earlier_heads hs h h.name i.one i.heads_one;
  entry = i.entry;
  another = λ a. (h, itself_heads hs h, n);
  alone = λ a. absurd (let no : ⊥ = cc in no);
}

pub before_from_one : (hs : List Head) (h : Head) (x : Heading) (entry : ℕ) → h.entry ≡ entry → (x.entry ≡ entry → ⊥) → IsHeading hs h.name x → HeadsBefore h hs
before_from_one hs h x entry e n i = record { other = i.one; before = i.heads_one.among; same = i.heads_one.named; another = λ f. n (sym i.entry ∙ f ∙ e) }

pub before_from_another : (hs : List Head) (h : Head) (x : Heading) (entry : ℕ) → h.entry ≡ entry → x.entry ≡ entry → x.again ≡ true → IsHeading hs h.name x → HeadsBefore h hs
before_from_another hs h x entry e f a i =
    let r = i.another a in
    record { other = r.0; before = r.1.among; same = r.1.named; another = λ g. r.2 (g ∙ e ∙ sym f) }

pub not_before : (hs : List Head) (h : Head) (x : Heading) (entry : ℕ) → h.entry ≡ entry → x.entry ≡ entry → x.again ≡ false → IsHeading hs h.name x → HeadsBefore h hs → ⊥
not_before hs h x entry e f a i b = b.another (i.alone a b.other (record { among = b.before; named = b.same }) ∙ f ∙ sym e)

pub nothing_before : (hs : List Head) (h : Head) → Tells hs h.name None → HeadsBefore h hs → ⊥
nothing_before hs h t b = t b.other (record { among = b.before; named = b.same })

-- ---- the names of a map

other_none : (hs : List Head) (h : Head) (name : Name) → (h.name ≡ name → ⊥) → (x : Head) → HeadsEntry (hs ++ h ∷ []) name x → HeadsEntry hs name x
other_none hs h name n x k = elim (In-push_cases hs h k.among) [ inl b ↦ record { among = b; named = k.named } | inr f ↦ absurd (n (ap (λ (y : Head). y.name) (sym f) ∙ k.named)) ]

-- another name is told of as before
tells_other : (hs : List Head) (h : Head) (name : Name) (o : Option Heading) → (h.name ≡ name → ⊥) → Tells hs name o → Tells (hs ++ h ∷ []) name o
tells_other hs h name None n t = λ x k. t x (other_none hs h name n x k)
tells_other hs h name (Some x) n i = record {
  one = i.one;
  heads_one = earlier_heads hs h name i.one i.heads_one;
  entry = i.entry;
  another = λ a. let r = i.another a in (r.0, earlier_heads hs h name r.0 r.1, r.2);
  alone = λ a y k. i.alone a y (other_none hs h name n y k);
}

module _ {S : Type 0} (hs : List Head) (h : Head) (m n : IndexMap Name Heading S) (x : Heading) where
  pub headings_more : AreHeadings hs m → Tells (hs ++ h ∷ []) h.name (Some x) → Updates same_name m n h.name (Some x) → AreHeadings (hs ++ h ∷ []) n
  headings_more all own u = λ name. subst (λ (o : Option Heading). Tells (hs ++ h ∷ []) name o) (sym (u.0 name)) (by name (same_name h.name name) refl)
    where
      by : (name : Name) (b : Bool) → same_name h.name name ≡ b → Tells (hs ++ h ∷ []) name (cond b (Some x) (get same_name m name))
      by name true e = subst (λ (k : Name). Tells (hs ++ h ∷ []) k (Some x)) (equal_from_same h.name name e) own
      by name false e = tells_other hs h name (get same_name m name) (λ f. let g = same_from_equal h.name name f in let no : ⊥ = cc in no) (all name)

-- ---- the names of a set

-- the set has just these names
pub record HasNames {S : Type 0} (names : List Name) (s : IndexSet Name S) : Type 0 where
  pub in_list : (name : Name) → contains same_name s name ≡ true → In name names
  pub in_set : (name : Name) → In name names → contains same_name s name ≡ true

module _ {S : Type 0} (names : List Name) (one : Name) (s t : IndexSet Name S) where
  pub names_more : HasNames names s → set.Updates same_name s t one true → HasNames (names ++ one ∷ []) t
  names_more h u = record {
    in_list = λ name e. listed name (same_name one name) refl (sym (u.0 name) ∙ e);
    in_set = λ name i. u.0 name ∙ held name (same_name one name) refl i;
  }
    where
      listed : (name : Name) (b : Bool) → same_name one name ≡ b → cond b true (contains same_name s name) ≡ true → In name (names ++ one ∷ [])
      listed name true e f = subst (λ (k : Name). In k (names ++ one ∷ [])) (equal_from_same one name e) (In-push names one)
      listed name false e f = In-append_left (one ∷ []) (h.in_list name f)

      held : (name : Name) (b : Bool) → same_name one name ≡ b → In name (names ++ one ∷ []) → cond b true (contains same_name s name) ≡ true
      held name true e i = refl
      held name false e i = elim (In-push_cases names one i) [ inl a ↦ h.in_set name a | inr f ↦ absurd (let g = same_from_equal one name (sym f) in let no : ⊥ = cc in no) ]

module _ {S : Type 0} (s : IndexSet Name S) where
  pub names_none : set.IsEmpty s → HasNames [] s
  names_none e = record {
    in_list = λ name f. let none : contains same_name s name ≡ false = ap (list_any (same_name name)) e in let no : ⊥ = cc in absurd no;
    in_set = λ name i. elim i [ ];
  }

pub names_fresh : {S : Type 0} (names : List Name) (name : Name) (s : IndexSet Name S) → HasNames names s → contains same_name s name ≡ false → In name names → ⊥
names_fresh names name s h e i = let f = h.in_set name i in let no : ⊥ = cc in no

pub names_taken : {S : Type 0} (names : List Name) (i : ℕ) (name copy : Name) (s t : IndexSet Name S) → i < length names → name ≡ get_or names i name → copy ≡ name → HasNames (take i names) s → set.Updates same_name s t copy true → HasNames (take (i + 1) names) t
names_taken names i name copy s t l e f h u =
    subst (λ (xs : List Name). HasNames xs t) (sym (take_more names i name l ∙ ap (λ (x : Name). take i names ++ x ∷ []) (sym e)))
    (names_more (take i names) name s t h (subst (λ (k : Name). set.Updates same_name s t k true) f u))

-- ---- heads as a loop takes them

headings_none_at : {S : Type 0} (m : IndexMap Name Heading S) (name : Name) → get same_name m name ≡ None → Tells [] name (get same_name m name)
headings_none_at m name e = subst (λ (o : Option Heading). Tells [] name o) (sym e) (λ h k. elim (k.among) [ ])

pub headings_none : {S : Type 0} (m : IndexMap Name Heading S) → IsEmpty m → AreHeadings [] m
headings_none m e = λ name. headings_none_at m name (ap (lookup (same_name name)) e)

pub headings_taken : {S : Type 0} (hs taken : List Head) (h : Head) (m n : IndexMap Name Heading S) (copy : Name) (x : Heading) → taken ≡ hs ++ h ∷ [] → copy ≡ h.name → AreHeadings hs m → Tells (hs ++ h ∷ []) h.name (Some x) → Updates same_name m n copy (Some x) → AreHeadings taken n
headings_taken hs taken h m n copy x e f all own u =
    subst (λ (xs : List Head). AreHeadings xs n) (sym e) (headings_more hs h m n x all own (subst (λ (k : Name). Updates same_name m n k (Some x)) f u))
