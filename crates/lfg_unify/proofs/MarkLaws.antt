-- The nodes of literals in contexts, and what literals state, by places.
use Rattle.std.proofs.Common.{◌≡◌, ℕ, zero, suc, ◌+◌, ◌<◌, ◌≤◌, Bool, true, false, ◌⊎◌, inl, inr, List, [], ◌∷◌, ◌++◌, length, get_or, take, Option, None, Some, sym, refl, ◌∙◌, ap, subst, arith}
use Rattle.std.specs.Prelude.{◌↔◌, slice_get, IfSome, IfNone}
use Rattle.std.specs.List.Sorted.{IsStrictlySortedBy}
use Rattle.std.proofs.lemmas.List.{take_all}
use Rattle.std.proofs.lemmas.Option.{slice_get-get_or}
use Rattle.lfg_terms.specs.Order.{node_cmp}
use Rattle.lfg_terms.specs.declared.node.Node.{Node}
use Rattle.lfg_terms.specs.declared.literal.Literal.{Literal}
use Rattle.lfg_model.specs.Lists.{In, here, later}
use Rattle.lfg_model.specs.Terms.{Name}
use Rattle.lfg_model.proofs.ListLaws.{In-at, In-nil, In-one, In-cons_cases, In-take_more, In-push, In-push_cases}
use Rattle.lfg_context.specs.Seen.{Set}
use Rattle.lfg_context.specs.Sets.{Assignment, member}
use Rattle.lfg_context.proofs.Telling.{In-take_one, In-take_last}
use Rattle.lfg_unify.specs.Closures.{Row, Ascends, place_in}
use Rattle.lfg_unify.specs.Rows.{Stands, Widens}
use Rattle.lfg_unify.specs.Marks.{IsStep, found_in, StandsAt, Marks, IsMentioned, IsMarked, AreArcs}
use Rattle.lfg_unify.proofs.Places.{place_is, place_once}
use Rattle.lfg_unify.proofs.StepLaws.{step_once}

In_last : {X : Type 0} (xs : List X) (n : ℕ) (d : X) → n < length xs → d ≡ get_or xs n d → In d (take (n + 1) xs)
In_last {X} xs n d h e = let R : X → Type 0 = λ v. In v (take (n + 1) xs) in subst R (sym e) (In-take_last xs n d h)

-- ---- one node

stands_at-one : (ns : List Node) (d : Node) (y : ℕ) → StandsAt ns (d ∷ []) y → (place_in ns d ≡ y) × (y < length ns)
stands_at-one ns d y s = (ap (place_in ns) (sym (In-one s.listed)) ∙ s.place, s.below)

pub marks_beyond : (ns : List Node) (d : Node) (z : Set) (row : Row) → length ns ≤ place_in ns d → Marks ns (d ∷ []) z row row
marks_beyond ns d z row h = record {
  each = λ a y. (
    (λ s. inl s),
    (λ s. elim s [ inl t ↦ t | inr p ↦ (let e = stands_at-one ns d y p.1 in absurd (omega (arith, e.0, e.1, h))) ]),
  );
}

pub marks_widened : (ns : List Node) (d : Node) (j : ℕ) (z : Set) (old new : Row) → j ≡ place_in ns d → j < length ns → Widens old j z new → Marks ns (d ∷ []) z old new
marks_widened ns d j z old new e h w = record {
  each = λ a y. (
    (λ s. elim ((w.each a y).0 s) [ inl t ↦ inl t | inr p ↦ inr (p.1, record { node = d; listed = here; place = sym e ∙ sym p.0; below = omega (arith, p.0, h) }) ]),
    (λ s. elim s [ inl t ↦ (w.each a y).1 (inl t) | inr p ↦ (let q = stands_at-one ns d y p.1 in (w.each a y).1 (inr (sym q.0 ∙ sym e, p.0))) ]),
  );
}

-- ---- a list of nodes

pub marks_none : (ns : List Node) (z : Set) (row : Row) → Marks ns [] z row row
marks_none ns z row = record { each = λ a y. ((λ s. inl s), (λ s. elim s [ inl t ↦ t | inr p ↦ In-nil p.1.listed ])) }

pub marks_more : (ns found : List Node) (n : ℕ) (d : Node) (z : Set) (old now new : Row) → n < length found → d ≡ get_or found n d → Marks ns (take n found) z old now → Marks ns (d ∷ []) z now new
    → Marks ns (take (n + 1) found) z old new
marks_more ns found n d z old now new h e m w = record {
  each = λ a y. (
    (λ s. elim ((w.each a y).0 s) [
      | inl t ↦ elim ((m.each a y).0 t) [ inl o ↦ inl o | inr p ↦ inr (p.0, record { node = p.1.node; listed = In-take_one found n d h p.1.listed; place = p.1.place; below = p.1.below }) ]
      | inr p ↦ (let q = stands_at-one ns d y p.1 in inr (p.0, record { node = d; listed = In_last found n d h e; place = q.0; below = q.1 }))
    ]),
    (λ s. elim s [
      | inl o ↦ (w.each a y).1 (inl ((m.each a y).1 (inl o)))
      | inr p ↦ elim (In-take_more found n d h p.1.listed) [
        | inl i ↦ (w.each a y).1 (inl ((m.each a y).1 (inr (p.0, record { node = p.1.node; listed = i; place = p.1.place; below = p.1.below }))))
        | inr f ↦ (w.each a y).1 (inr (p.0, record { node = d; listed = here; place = ap (place_in ns) (e ∙ sym f) ∙ p.1.place; below = p.1.below }))
      ]
    ]),
  );
}

pub marks_all : (ns found : List Node) (n : ℕ) (z : Set) (old new : Row) → length found ≤ n → Marks ns (take n found) z old new → Marks ns found z old new
marks_all ns found n z old new h m = subst (λ (xs : List Node). Marks ns xs z old new) (take_all n found h) m

-- ---- literals

pub marked_none : (ns : List Node) (whole : Bool) → IsMarked ns whole [] []
marked_none ns whole = record { each = λ a y. ((λ s. In-nil s.listed), (λ s. In-nil s.listed)) }

pub marked_more : (ns : List Node) (whole : Bool) (ls : List (Literal × Set)) (n : ℕ) (d : Literal × Set) (now new : Row) → n < length ls → d ≡ get_or ls n d → IsMarked ns whole (take n ls) now
    → Marks ns (found_in whole d.0) d.1 now new → IsMarked ns whole (take (n + 1) ls) new
marked_more ns whole ls n d now new h e m w = record {
  each = λ a y. (
    (λ s. elim ((w.each a y).0 s) [
      | inl t ↦ (let p = (m.each a y).0 t in record { literal = p.literal; listed = In-take_one ls n d h p.listed; holds = p.holds; at = p.at })
      | inr p ↦ record { literal = d; listed = In_last ls n d h e; holds = p.0; at = p.1 }
    ]),
    (λ s. elim (In-take_more ls n d h s.listed) [
      | inl i ↦ (w.each a y).1 (inl ((m.each a y).1 (record { literal = s.literal; listed = i; holds = s.holds; at = s.at })))
      | inr f ↦ (let P : (Literal × Set) → Type 0 = λ v. (member v.1 a ≡ true) × StandsAt ns (found_in whole v.0) y in (w.each a y).1 (inr (subst P (f ∙ sym e) (s.holds, s.at))))
    ]),
  );
}

pub marked_all : (ns : List Node) (whole : Bool) (ls : List (Literal × Set)) (n : ℕ) (row : Row) → length ls ≤ n → IsMarked ns whole (take n ls) row → IsMarked ns whole ls row
marked_all ns whole ls n row h m = subst (λ (xs : List (Literal × Set)). IsMarked ns whole xs row) (take_all n ls h) m

-- ---- arcs

pub arcs_none : (ns : List Node) → AreArcs ns [] []
arcs_none ns = record { sound = λ x n t z i. In-nil i; all = λ x n t y z s i j e. In-nil i }

pub arcs_more : (ns : List Node) (row : Row) (k : ℕ) (d : ℕ × Set) (node : Node) (now new : List (Node × Name × Node × Set)) → k < length row → d ≡ get_or row k d
    → IsStrictlySortedBy node_cmp ns → d.0 < length ns → node ≡ get_or ns d.0 node → AreArcs ns (take k row) now
    → ((x : Node) (n : Name) (t : Node) (z : Set) → In (x, n, t, z) new → In (x, n, t, z) now ⊎ (IsStep x n t × (t ≡ node) × (z ≡ d.1)))
    → ((r : Node × Name × Node × Set) → In r now → In r new) → ((x : Node) (n : Name) → IsStep x n node → In (x, n, node, d.1) new) → AreArcs ns (take (k + 1) row) new
arcs_more ns row k d node now new h e sorted below is a sound keeps has = record {
  sound = λ x n t z i. elim (sound x n t z i) [
    | inl j ↦ (let p = a.sound x n t z j in (p.0, (p.1.0, In-take_one row k d h p.1.1, p.1.2, p.1.3, p.1.4)))
    | inr p ↦ (p.0, (d.0, subst (λ (s : Set). In (d.0, s) (take (k + 1) row)) (sym p.2) (In_last row k d h e), ap (place_in ns) p.1 ∙ there, below, subst (λ (m : Node). In m ns) (sym p.1) listed))
  ];
  all = λ x n t y z s i j f. elim (In-take_more row k d h i) [
    | inl l ↦ keeps (x, n, t, z) (a.all x n t y z s l j f)
    | inr g ↦
        let q : ◌≡◌ {A = ℕ × Set} (y, z) d = g ∙ sym e in
        let same : t ≡ node = (let u : place_in ns t ≡ place_in ns node = f ∙ ap (λ r. r.0) q ∙ sym there in place_once ns t node j u) in
        let P : Node → Type 0 = λ m. IsStep x n m → In (x, n, m, d.1) new in
        let k : In (x, n, t, d.1) new = subst P (sym same) (has x n) s in
        subst (λ (w : Set). In (x, n, t, w) new) (sym (ap (λ r. r.1) q)) k
  ];
}
  where
    listed : In node ns
    listed = subst (λ (m : Node). In m ns) (sym is) (In-at ns d.0 node below)

    there : place_in ns node ≡ d.0
    there = place_is ns node d.0 sorted (slice_get-get_or ns d.0 node below ∙ ap (λ m. Some m) (sym is))

pub arcs_all : (ns : List Node) (row : Row) (k : ℕ) (arcs : List (Node × Name × Node × Set)) → length row ≤ k → AreArcs ns (take k row) arcs → AreArcs ns row arcs
arcs_all ns row k arcs h a = subst (λ (r : Row). AreArcs ns r arcs) (take_all k row h) a

-- ---- one arc

pub pushed_sound : (old new : List (Node × Name × Node × Set)) (b copy node : Node) (m : Name) (w ctx : Set) → new ≡ old ++ (b, m, copy, w) ∷ [] → copy ≡ node → w ≡ ctx → IsStep b m node
    → (x : Node) (n : Name) (t : Node) (z : Set) → In (x, n, t, z) new → In (x, n, t, z) old ⊎ (IsStep x n t × (t ≡ node) × (z ≡ ctx))
pushed_sound old new b copy node m w ctx e same is step x n t z i = elim (In-push_cases old (b, m, copy, w) (subst (λ (xs : List (Node × Name × Node × Set)). In (x, n, t, z) xs) e i)) [
  | inl j ↦ inl j
  | inr f ↦
      let p : x ≡ b = ap (λ r. r.0) f in
      let q : n ≡ m = ap (λ r. r.1) f in
      let r : t ≡ node = ap (λ r. r.2) f ∙ same in
      let k : IsStep x m node = subst (λ (y : Node). IsStep y m node) (sym p) step in
      let l : IsStep x n node = subst (λ (y : Name). IsStep x y node) (sym q) k in
      inr (subst (λ (y : Node). IsStep x n y) (sym r) l, r, ap (λ r. r.3) f ∙ is)
]

pub pushed_has : (old new : List (Node × Name × Node × Set)) (b copy node : Node) (m : Name) (w ctx : Set) → new ≡ old ++ (b, m, copy, w) ∷ [] → copy ≡ node → w ≡ ctx → IsStep b m node
    → (x : Node) (n : Name) → IsStep x n node → In (x, n, node, ctx) new
pushed_has old new b copy node m w ctx e same is step x n s =
    let p = step_once node s step in
    let i : In (b, m, copy, w) new = subst (λ (xs : List (Node × Name × Node × Set)). In (b, m, copy, w) xs) (sym e) (In-push old (b, m, copy, w)) in
    subst (λ (r : Node × Name × Node × Set). In r new) (λ i. (sym p.0 i, sym p.1 i, same i, is i)) i

pub none_of : {X : Type 0} (o : Option X) (P : Type 0) → o ≡ None → IfNone o P → P
none_of {X} o P e h = subst (λ (p : Option X). IfNone p P) e h

pub some_of : {X : Type 0} (o : Option X) (P : X → Type 0) (x : X) → o ≡ Some x → IfSome o P → P x
some_of {X} o P x e h = subst (λ (p : Option X). IfSome p P) e h
