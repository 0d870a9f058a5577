-- The numbers of a solution are the solution.
use Rattle.std.proofs.Common.{◌≡◌, ℕ, zero, suc, ◌+◌, ◌<◌, List, [], ◌∷◌, ◌++◌, map, length, take, get_or, Option, Some, None, refl, sym, ap, subst, ◌∙◌, arith, inl, inr, ◌⊎◌, All}
use Rattle.std.specs.Prelude.{◌↔◌, slice_get, IfSome, IfNone}
use Rattle.std.specs.List.{flat_map}
use Rattle.std.proofs.lemmas.Option.{same_Some, slice_get_within}
use Rattle.std.proofs.lemmas.List.{take_more}
use Rattle.lfg_terms.specs.Order.{node_cmp}
use Rattle.lfg_terms.specs.OrderLaws.{node_cmp_total}
use Rattle.lfg_terms.specs.declared.node.Edge.{Edge}
use Rattle.lfg_terms.specs.declared.node.Node as node
use Rattle.lfg_terms.specs.declared.node.Node.{Node}
use Rattle.lfg_terms.specs.declared.literal.Literal.{Literal}
use Rattle.lfg_terms.specs.declared.literal.Literal.TheVariants as literal
use Rattle.lfg_model.specs.declared.constant.Constant.{Constant}
use Rattle.lfg_model.specs.Lists.{In, here, later, Lists}
use Rattle.lfg_model.specs.Equal.{itself, stated, turned, joined, along}
use Rattle.lfg_model.specs.Terms.{Name, Path}
use Rattle.lfg_model.specs.Literals.{prefixes, steps, with_prefixes, arcs_to, named, starts, checks_of, given_of, values_of, members_of, nodes, arcs, given, values, members}
use Rattle.lfg_model.specs.Solve.{SameNode, HasArc, arc, HasValue, value, HasMember, member}
use Rattle.lfg_model.proofs.ListLaws.{In-at, In-map, In_from_map, In-nil, In-one, In-append_left, In-append_right, In-append_cases, In-cons_cases, In-flat_map, In_from_flat_map}
use Rattle.lfg_model.proofs.LiteralLaws.{literals_between}
use Rattle.lfg_solve.specs.declared.classes.Arc.{Arc}
use Rattle.lfg_solve.specs.declared.solution.Value.{Value}
use Rattle.lfg_solve.specs.declared.solution.Membership.{Membership}
use Rattle.lfg_solve.specs.declared.solution.Solution.{Solution}
use Rattle.lfg_solve.specs.Solves.{Solves}
use Rattle.lfg_solve.specs.Links.{ArcsWithin, GivenWithin}
use Rattle.lfg_solve.specs.Numbers.{Corresponds, IsStep, IsStepTo, ArePlaces, IsArcOf, IsLabelled, HasClass, IsValueOf, IsMemberOf}
use Rattle.lfg_solve.specs.Divides.{numbers, ends, EqualNumbers, OneClass, by_label, Divides}
use Rattle.lfg_solve.proofs.Dividing.{numbers-In, In-numbers}
use Rattle.lfg_solve.proofs.Tables.{In_get, get_In, one_at, one_place, Corresponds-one, Corresponds-none, Corresponds-both, Corresponds-iff}

pub none_of : {X : Type 0} (o : Option X) (P : Type 0) → o ≡ None → IfNone o P → P
none_of {X} o P e h = subst (λ (p : Option X). IfNone p P) e h

pub some_of : {X : Type 0} (o : Option X) (P : X → Type 0) (x : X) → o ≡ Some x → IfSome o P → P x
some_of {X} o P x e h = subst (λ (p : Option X). IfSome p P) e h

pub All_from_In : {X : Type 0} (P : X → Type 0) (xs : List X) → ((x : X) → In x xs → P x) → All P xs
All_from_In P xs f = λ k d l. f (get_or xs k d) (In-at xs k d l)

-- ---- steps

path_of : Node → Path
path_of (node.At e p) = p
path_of n = []

edge_of : Node → Option Edge
edge_of (node.At e p) = Some e
edge_of n = None

at_parts : (e f : Edge) (p q : Path) → node.At e p ≡ node.At f q → (e ≡ f) × (p ≡ q)
unfolding path_of edge_of
at_parts e f p q h = (same_Some e f (ap edge_of h), ap path_of h)

snoc_parts : (p q : Path) (a b : Name) → p ++ a ∷ [] ≡ q ++ b ∷ [] → (p ≡ q) × (a ≡ b)
snoc_parts [] [] a b h = (refl, cc)
snoc_parts [] (y ∷ []) a b h = cc
snoc_parts [] (y ∷ z ∷ q) a b h = cc
snoc_parts (x ∷ []) [] a b h = cc
snoc_parts (x ∷ z ∷ p) [] a b h = cc
snoc_parts (x ∷ p) (y ∷ q) a b h =
    let e : x ≡ y = cc in
    let t : p ++ a ∷ [] ≡ q ++ b ∷ [] = cc in
    let r = snoc_parts p q a b t in
    (λ i. e i ∷ r.0 i, r.1)

pub step_once : {x y : Node} {a b : Name} (t : Node) → IsStep x a t → IsStep y b t → (x ≡ y) × (a ≡ b)
step_once t s r =
    let e = at_parts s.edge r.edge (s.path ++ _ ∷ []) (r.path ++ _ ∷ []) (sym s.end ∙ r.end) in
    let q = snoc_parts s.path r.path _ _ e.1 in
    (s.start ∙ (λ i. node.At (e.0 i) (q.0 i)) ∙ sym r.start, q.1)

steps_In : (p q r : Path) (b : Name) → In r (prefixes p) → r ≡ q ++ b ∷ [] → In (q, b) (steps p)
steps_In [] q r b h e = no_step q b (sym (In-one h) ∙ e)
  where
    no_step : (q : Path) (b : Name) → [] ≡ q ++ b ∷ [] → In {X = Path × Name} (q, b) []
    no_step [] b e = cc
    no_step (x ∷ q) b e = cc
steps_In (a ∷ p) q r b h e = elim (In-cons_cases h) [
  | inl z ↦ no_step q b (sym z ∙ e)
  | inr l ↦ let m = In_from_map (λ q. a ∷ q) (prefixes p) l in deeper q m.0 (m.2 ∙ e) (λ q f. steps_In p q m.0 b m.1 f)
]
  where
    no_step : (q : Path) (b : Name) → [] ≡ q ++ b ∷ [] → In (q, b) (steps (a ∷ p))
    no_step [] b e = cc
    no_step (x ∷ q) b e = cc

    deeper : (q s : Path) → a ∷ s ≡ q ++ b ∷ [] → ((q : Path) → s ≡ q ++ b ∷ [] → In (q, b) (steps p)) → In (q, b) (steps (a ∷ p))
    deeper [] s f rest = let g : a ≡ b = cc in subst (λ (n : Name). In ([], n) (steps (a ∷ p))) g here
    deeper (x ∷ q) s f rest =
        let g : a ≡ x = cc in
        let t : s ≡ q ++ b ∷ [] = cc in
        let k : In (a ∷ q, b) (steps (a ∷ p)) = later (In-map (λ s. (a ∷ s.0, s.1)) (rest q t)) in
        subst (λ (n : Name). In (n ∷ q, b) (steps (a ∷ p))) g k

In-steps : (p q : Path) (b : Name) → In (q, b) (steps p) → In (q ++ b ∷ []) (prefixes p)
In-steps [] q b h = In-nil h
In-steps (a ∷ p) q b h = elim (In-cons_cases h) [
  | inl e ↦ let f : q ≡ [] = ap (λ s. s.0) e in let g : b ≡ a = ap (λ s. s.1) e in rw (f, g) (later (In-map (λ q. a ∷ q) (first p)))
  | inr l ↦
      let m = In_from_map (λ s. (a ∷ s.0, s.1)) (steps p) l in
      let k : In (a ∷ (m.0.0 ++ m.0.1 ∷ [])) (prefixes (a ∷ p)) = later (In-map (λ q. a ∷ q) (In-steps p m.0.0 m.0.1 m.1)) in
      let f : a ∷ m.0.0 ≡ q = ap (λ s. s.0) m.2 in
      let g : m.0.1 ≡ b = ap (λ s. s.1) m.2 in
      subst (λ (s : Path × Name). In (s.0 ++ s.1 ∷ []) (prefixes (a ∷ p))) (λ i. (f i, g i)) k
]
  where
    first : (p : Path) → In [] (prefixes p)
    first [] = here
    first (a ∷ p) = here

-- the arcs on the way to a node are the steps to the nodes on the way
arcs_to_steps : (n x : Node) (a : Name) (t : Node) → In (x, a, t) (arcs_to n) → In t (with_prefixes n) × IsStep x a t
arcs_to_steps (node.At e p) x a t h =
    let m = In_from_map (λ s. (node.At e s.0, s.1, node.At e (s.0 ++ s.1 ∷ []))) (steps p) h in
    let f : node.At e m.0.0 ≡ x = ap (λ r. r.0) m.2 in
    let g : m.0.1 ≡ a = ap (λ r. r.1) m.2 in
    let k : node.At e (m.0.0 ++ m.0.1 ∷ []) ≡ t = ap (λ r. r.2) m.2 in (
      subst (λ (n : Node). In n (with_prefixes (node.At e p))) k (In-map (λ q. node.At e q) (In-steps p m.0.0 m.0.1 m.1)),
      record { edge = e; path = m.0.0; start = sym f; end = sym k ∙ (λ i. node.At e (m.0.0 ++ g i ∷ [])) },
    )
arcs_to_steps n x a t h = In-nil h

no_At : (n : Node) → path_of n ≡ [] → (p : Path) (a : Name) → path_of n ≡ p ++ a ∷ [] → ⊥
no_At n z [] a e = let f : [] ≡ a ∷ [] = sym z ∙ e in cc
no_At n z (x ∷ p) a e = let f : [] ≡ x ∷ (p ++ a ∷ []) = sym z ∙ e in cc

steps_arcs_to : (n x : Node) (a : Name) (t : Node) → In t (with_prefixes n) → IsStep x a t → In (x, a, t) (arcs_to n)
unfolding path_of
steps_arcs_to (node.At e p) x a t h s =
    let m = In_from_map (λ q. node.At e q) (prefixes p) h in
    let f = at_parts e s.edge m.0 (s.path ++ a ∷ []) (m.2 ∙ s.end) in
    let k = In-map (λ s. (node.At e s.0, s.1, node.At e (s.0 ++ s.1 ∷ []))) (steps_In p s.path m.0 a m.1 f.1) in
    let g : node.At e s.path ≡ x = (λ i. node.At (f.0 i) s.path) ∙ sym s.start in
    let l : node.At e (s.path ++ a ∷ []) ≡ t = (λ i. node.At (f.0 i) (s.path ++ a ∷ [])) ∙ sym s.end in
    subst (λ (r : Node × Name × Node). In r (arcs_to (node.At e p))) (λ i. (g i, a, l i)) k
steps_arcs_to n x a t h s = absurd (no_At t (ap path_of (In-one h)) s.path a (ap path_of s.end))

-- the nodes that defining literals name, with all nodes on the way to them
abbrev pub defined : List Literal → List Node
defined ls = flat_map (λ l. flat_map with_prefixes (named l)) ls

pub arcs_are_steps : (ls : List Literal) (ts : List Node) → ((t : Node) → In t ts ↔ In t (defined ls)) → (s : Node × Name × Node) → IsStepTo ts s ↔ In s (arcs ls)
arcs_are_steps ls ts same s = (forth, back)
  where
    forth : IsStepTo ts s → In s (arcs ls)
    forth h =
        let l = In_from_flat_map (λ l. flat_map with_prefixes (named l)) ls ((same s.2).0 h.listed) in
        let n = In_from_flat_map with_prefixes (named l.0) l.2 in
        In-flat_map (λ l. flat_map arcs_to (named l)) l.1 (In-flat_map arcs_to n.1 (steps_arcs_to n.0 s.0 s.1 s.2 n.2 h.step))

    back : In s (arcs ls) → IsStepTo ts s
    back h =
        let l = In_from_flat_map (λ l. flat_map arcs_to (named l)) ls h in
        let n = In_from_flat_map arcs_to (named l.0) l.2 in
        let r = arcs_to_steps n.0 s.0 s.1 s.2 n.2 in
        record {
          listed = (same s.2).1 (In-flat_map (λ l. flat_map with_prefixes (named l)) l.1 (In-flat_map with_prefixes n.1 r.0));
          step = r.1;
        }

-- the nodes are those of the defining literals and the starts of the checks
pub nodes_are : (ls : List Literal) (n : Node) → In n (defined ls ++ flat_map (λ l. flat_map starts (checks_of l)) ls) ↔ In n (nodes ls)
nodes_are ls n = (forth, back)
  where
    forth : In n (defined ls ++ flat_map (λ l. flat_map starts (checks_of l)) ls) → In n (nodes ls)
    forth h = elim (In-append_cases (defined ls) (flat_map (λ l. flat_map starts (checks_of l)) ls) h) [
      | inl a ↦
          let l = In_from_flat_map (λ l. flat_map with_prefixes (named l)) ls a in
          In-flat_map (λ l. flat_map with_prefixes (named l) ++ flat_map starts (checks_of l)) l.1 (In-append_left _ l.2)
      | inr b ↦
          let l = In_from_flat_map (λ l. flat_map starts (checks_of l)) ls b in
          In-flat_map (λ l. flat_map with_prefixes (named l) ++ flat_map starts (checks_of l)) l.1 (In-append_right (flat_map with_prefixes (named l.0)) l.2)
    ]

    back : In n (nodes ls) → In n (defined ls ++ flat_map (λ l. flat_map starts (checks_of l)) ls)
    back h =
        let l = In_from_flat_map (λ l. flat_map with_prefixes (named l) ++ flat_map starts (checks_of l)) ls h in
        elim (In-append_cases (flat_map with_prefixes (named l.0)) (flat_map starts (checks_of l.0)) l.2) [
          | inl a ↦ In-append_left _ (In-flat_map (λ l. flat_map with_prefixes (named l)) l.1 a)
          | inr b ↦ In-append_right (defined ls) (In-flat_map (λ l. flat_map starts (checks_of l)) l.1 b)
        ]

pub defined_node : (ls : List Literal) (n : Node) → In n (defined ls) → In n (nodes ls)
defined_node ls n h = (nodes_are ls n).0 (In-append_left _ h)

-- the nodes that literals speak of are nodes
itself_listed : (n : Node) → In n (with_prefixes n)
itself_listed (node.At e p) = In-map (λ q. node.At e q) (whole p)
  where
    whole : (p : Path) → In p (prefixes p)
    whole [] = here
    whole (a ∷ p) = later (In-map (λ q. a ∷ q) (whole p))
itself_listed n = here

named_node : (ls : List Literal) (l : Literal) (n : Node) → In l ls → In n (named l) → In n (nodes ls)
named_node ls l n i j = defined_node ls n (In-flat_map (λ l. flat_map with_prefixes (named l)) i (In-flat_map with_prefixes j (itself_listed n)))

value_named : (l : Literal) (x : Node) (c : Constant) → In (x, c) (values_of l) → In x (named l)
value_named (literal.Equal a b) x c h = In-nil h
value_named (literal.Value n a) x c h = rw (ap (λ p. p.0) (In-one h)) here
value_named (literal.Form n f s i) x c h = rw (ap (λ p. p.0) (In-one h)) here
value_named (literal.Member m s) x c h = In-nil h
value_named (literal.Check k) x c h = In-nil h
value_named (literal.Mark m) x c h = In-nil h

pub value_node : (ls : List Literal) (x : Node) (c : Constant) → In (x, c) (values ls) → In x (nodes ls)
value_node ls x c h = let l = In_from_flat_map values_of ls h in named_node ls l.0 x l.1 (value_named l.0 x c l.2)

member_named : (l : Literal) (k x : Node) → In (k, x) (members_of l) → In k (named l) × In x (named l)
member_named (literal.Equal a b) k x h = In-nil h
member_named (literal.Value n a) k x h = In-nil h
member_named (literal.Form n f s i) k x h = In-nil h
member_named (literal.Member m s) k x h = (rw (ap (λ p. p.0) (In-one h)) here, rw (ap (λ p. p.1) (In-one h)) (later here))
member_named (literal.Check c) k x h = In-nil h
member_named (literal.Mark m) k x h = In-nil h

pub member_node : (ls : List Literal) (k x : Node) → In (k, x) (members ls) → In k (nodes ls) × In x (nodes ls)
member_node ls k x h = let l = In_from_flat_map members_of ls h in let e = member_named l.0 k x l.2 in (named_node ls l.0 k l.1 e.0, named_node ls l.0 x l.1 e.1)

-- ---- what one literal or node gives, in numbers

pub given_here : (table : List Node) (l : Literal) (a b : Node) (i j : ℕ) → l ≡ literal.Equal a b → slice_get table i ≡ Some a → slice_get table j ≡ Some b
    → Corresponds (ArePlaces table) (λ p. In p (given_of l)) ((i, j) ∷ [])
given_here table l a b i j e h g =
    rw e (Corresponds-one (ArePlaces table) (λ p. In p ((a, b) ∷ [])) (a, b) (i, j) here (λ z k. In-one k) (record { first = h; second = g }))

pub value_here : (table : List Node) (labels : List ℕ) (l : Literal) (n : Node) (c : Constant) (k : ℕ) → values_of l ≡ (n, c) ∷ [] → HasClass table labels n k
    → Corresponds (IsValueOf table labels) (λ p. In p (values_of l)) (record { class = k; constant = c } ∷ [])
value_here table labels l n c k e h =
    rw e (Corresponds-one (IsValueOf table labels) (λ p. In p ((n, c) ∷ [])) (n, c) (record { class = k; constant = c }) here (λ z k. In-one k) (record { class = h; constant = refl }))

pub member_here : (table : List Node) (labels : List ℕ) (l : Literal) (m s : Node) (i j : ℕ) → l ≡ literal.Member m s → HasClass table labels m i → HasClass table labels s j
    → Corresponds (IsMemberOf table labels) (λ p. In p (members_of l)) (record { item = i; set = j } ∷ [])
member_here table labels l m s i j e h g =
    rw e (Corresponds-one (IsMemberOf table labels) (λ p. In p ((m, s) ∷ [])) (m, s) (record { item = i; set = j }) here (λ z k. In-one k) (record { item = h; set = g }))

pub arc_here : (table : List Node) (x : Node) (a : Name) (t : Node) (i j : ℕ) → IsStep x a t → slice_get table i ≡ Some x → slice_get table j ≡ Some t
    → Corresponds (IsArcOf table) (IsStepTo (t ∷ [])) (record { from = i; attribute = a; to = j } ∷ [])
arc_here table x a t i j s h g =
    Corresponds-one (IsArcOf table) (IsStepTo (t ∷ [])) (x, a, t) (record { from = i; attribute = a; to = j })
    (record { listed = here; step = s })
    (λ z k. only z (In-one k.listed) k.step)
    (record { start = h; attribute = refl; end = g })
  where
    only : (z : Node × Name × Node) → z.2 ≡ t → IsStep z.0 z.1 z.2 → z ≡ (x, a, t)
    only z e r = let o = step_once z.2 r (subst (λ (n : Node). IsStep x a n) (sym e) s) in λ k. (o.0 k, o.1 k, e k)

pub no_arc : (table : List Node) (t : Node) → ((x : Node) (a : Name) → ¬ IsStep x a t) → Corresponds (IsArcOf table) (IsStepTo (t ∷ [])) []
no_arc table t n = Corresponds-none (IsArcOf table) (IsStepTo (t ∷ [])) (λ s h. n s.0 s.1 (subst (λ (m : Node). IsStep s.0 s.1 m) (In-one h.listed) h.step))

take_split : {X : Type 0} (xs : List X) (k : ℕ) (x y : X) → k < length xs → x ≡ get_or xs k x → In y (take (k + 1) xs) ↔ (In y (take k xs) ⊎ In y (x ∷ []))
take_split xs k x y l e =
    rw (take_more xs k x l ∙ ap (λ z. take k xs ++ z ∷ []) (sym e))
    (In-append_cases (take k xs) (x ∷ []), λ h. elim h [ inl a ↦ In-append_left (x ∷ []) a | inr b ↦ In-append_right (take k xs) b ])

pub steps_read : (table : List Node) (ts : List Node) (k : ℕ) (t : Node) (ys zs : List Arc) → k < length ts → t ≡ get_or ts k t
    → Corresponds (IsArcOf table) (IsStepTo (take k ts)) ys → Corresponds (IsArcOf table) (IsStepTo (t ∷ [])) zs → Corresponds (IsArcOf table) (IsStepTo (take (k + 1) ts)) (ys ++ zs)
steps_read table ts k t ys zs l e c d =
    Corresponds-both (IsArcOf table) (IsStepTo (take k ts)) (IsStepTo (t ∷ [])) (IsStepTo (take (k + 1) ts)) ys zs
    (λ s. (
      (λ h. elim ((take_split ts k t s.2 l e).0 h.listed) [ inl a ↦ inl (record { listed = a; step = h.step }) | inr b ↦ inr (record { listed = b; step = h.step }) ]),
      (λ h. elim h [
        | inl a ↦ record { listed = (take_split ts k t s.2 l e).1 (inl a.listed); step = a.step }
        | inr b ↦ record { listed = (take_split ts k t s.2 l e).1 (inr b.listed); step = b.step }
      ]),
    ))
    c d

pub no_steps : (table : List Node) → Corresponds (IsArcOf table) (IsStepTo []) []
no_steps table = Corresponds-none (IsArcOf table) (IsStepTo []) (λ s h. In-nil h.listed)

pub arcs_read : (labels : List ℕ) (front : List Arc) (k : ℕ) (old new : Arc) (ys : List Arc) → k < length front → old ≡ get_or front k old
    → Corresponds (IsLabelled labels) (λ a. In a (take k front)) ys → IsLabelled labels new old → Corresponds (IsLabelled labels) (λ a. In a (take (k + 1) front)) (ys ++ new ∷ [])
arcs_read labels front k old new ys l e c r =
    Corresponds-both (IsLabelled labels) (λ a. In a (take k front)) (λ a. In a (old ∷ [])) (λ a. In a (take (k + 1) front)) ys (new ∷ [])
    (λ a. take_split front k old a l e)
    c (Corresponds-one (IsLabelled labels) (λ a. In a (old ∷ [])) old new here (λ z i. In-one i) r)

-- ---- numbers are within the table

pub arcs_within : (table : List Node) (P : Node × Name × Node → Type 0) (numbered : List Arc) → Corresponds (IsArcOf table) P numbered → ArcsWithin (length table) numbered
arcs_within table P numbered c = All_from_In (λ arc. (arc.from < length table) × (arc.to < length table)) numbered
    (λ arc i. let s = c.sound arc i in (slice_get_within table arc.from s.0.0 s.2.start, slice_get_within table arc.to s.0.2 s.2.end))

pub given_within : (table : List Node) (P : Node × Node → Type 0) (pairs : List (ℕ × ℕ)) → Corresponds (ArePlaces table) P pairs → GivenWithin (length table) pairs
given_within table P pairs c = All_from_In (λ p. (p.0 < length table) × (p.1 < length table)) pairs
    (λ p i. let s = c.sound p i in (slice_get_within table p.0 s.0.0 s.2.first, slice_get_within table p.1 s.0.1 s.2.second))

-- ---- the whole

module _ (ls : List Literal) (table : List Node) (pairs : List (ℕ × ℕ)) (numbered : List Arc) (labels : List ℕ)
    (listed : Lists node_cmp (λ n. In n (nodes ls)) table)
    (stand : Corresponds (ArePlaces table) (λ p. In p (given ls)) pairs)
    (lead : Corresponds (IsArcOf table) (λ s. In s (arcs ls)) numbered)
    (divided : Divides (length table) pairs numbered labels) where
  SameNumbers : ℕ → ℕ → Type 0
  SameNumbers = EqualNumbers (length table) pairs numbered

  abbrev HasPlaces : Node → Node → Type 0
  HasPlaces x z = (i : ℕ) × (j : ℕ) × (slice_get table i ≡ Some x) × (slice_get table j ≡ Some z) × EqualNumbers (length table) pairs numbered i j

  abbrev HasNodes : ℕ → ℕ → Type 0
  HasNodes i j = (x : Node) × (z : Node) × (slice_get table i ≡ Some x) × (slice_get table j ≡ Some z) × SameNode ls x z

  place_once : (i j : ℕ) (x : Node) → slice_get table i ≡ Some x → slice_get table j ≡ Some x → i ≡ j
  place_once i j x h g = one_place node_cmp node_cmp_total table i j x listed.ascends h g

  places_itself : (x : Node) → In x (nodes ls) → HasPlaces x x
  places_itself x h =
      let p = In_get ((listed.exact x).1 h) in
      (p.0, p.0, p.1, p.1, itself (numbers-In (length table) p.0 (slice_get_within table p.0 x p.1)))

  places_along : (x y t u : Node) (a : Name) → In (x, a, t) (arcs ls) → In (y, a, u) (arcs ls) → HasPlaces x y → HasPlaces t u
  places_along x y t u a h g p =
      let r = lead.all (x, a, t) h in
      let s = lead.all (y, a, u) g in
      let from : p.0 ≡ r.0.from = place_once p.0 r.0.from x p.2 r.2.start in
      let start : p.1 ≡ s.0.from = place_once p.1 s.0.from y p.3 s.2.start in
      let first : In (p.0, a, r.0.to) (map ends numbered) = subst (λ (e : ℕ × Name × ℕ). In e (map ends numbered)) (λ i. (sym from i, r.2.attribute i, r.0.to)) (In-map ends r.1) in
      let second : In (p.1, a, s.0.to) (map ends numbered) = subst (λ (e : ℕ × Name × ℕ). In e (map ends numbered)) (λ i. (sym start i, s.2.attribute i, s.0.to)) (In-map ends s.1) in
      (r.0.to, s.0.to, r.2.end, s.2.end, along p.4 first second)

  places_joined : (x y z : Node) → HasPlaces x y → HasPlaces y z → HasPlaces x z
  places_joined x y z p q =
      let e : q.0 ≡ p.1 = place_once q.0 p.1 y q.2 p.3 in
      (p.0, q.1, p.2, q.3, joined p.4 (subst (λ (k : ℕ). EqualNumbers (length table) pairs numbered k q.1) e q.4))

  places : {x z : Node} → SameNode ls x z → HasPlaces x z
  places (itself {x} h) = places_itself x h
  places (stated {x} {y} h) = let r = stand.all (x, y) h in (r.0.0, r.0.1, r.2.first, r.2.second, stated r.1)
  places (turned {x} {y} h) = let r = stand.all (x, y) h in (r.0.1, r.0.0, r.2.second, r.2.first, turned r.1)
  places (joined {x} {y} {z} a b) = places_joined x y z (places a) (places b)
  places (along {x} {y} {t} {u} {a} e h g) = places_along x y t u a h g (places e)

  nodes_itself : (i : ℕ) → In i (numbers (length table)) → HasNodes i i
  nodes_itself i h =
      let l : i < length table = In-numbers (length table) pairs numbered (length table) i h in
      let x = first_of_table table i l in
      (x.0, x.0, x.1, x.1, itself ((listed.exact x.0).0 (get_In table i x.0 x.1)))
    where
      first_of_table : (xs : List Node) (i : ℕ) → i < length xs → (x : Node) × (slice_get xs i ≡ Some x)
      first_of_table [] i l = absurd (omega arith)
      first_of_table (x ∷ xs) zero l = (x, refl)
      first_of_table (x ∷ xs) (suc i) l = first_of_table xs i (omega arith)

  nodes_joined : (i j k : ℕ) → HasNodes i j → HasNodes j k → HasNodes i k
  nodes_joined i j k p q =
      let e : q.0 ≡ p.1 = one_at table j q.0 p.1 q.2 p.3 in
      (p.0, q.1, p.2, q.3, joined p.4 (subst (λ (n : Node). SameNode ls n q.1) e q.4))

  arc_nodes : (i t : ℕ) (a : Name) → In (i, a, t) (map ends numbered) → (x : Node) × (u : Node) × (slice_get table i ≡ Some x) × (slice_get table t ≡ Some u) × In (x, a, u) (arcs ls)
  arc_nodes i t a h =
      let m = In_from_map ends numbered h in
      let s = lead.sound m.0 m.1 in
      let from : m.0.from ≡ i = ap (λ e. e.0) m.2 in
      let to : m.0.to ≡ t = ap (λ e. e.2) m.2 in
      let name : s.0.1 ≡ a = sym s.2.attribute ∙ ap (λ e. e.1) m.2 in (
        s.0.0,
        s.0.2,
        subst (λ (k : ℕ). slice_get table k ≡ Some s.0.0) from s.2.start,
        subst (λ (k : ℕ). slice_get table k ≡ Some s.0.2) to s.2.end,
        subst (λ (n : Name). In (s.0.0, n, s.0.2) (arcs ls)) name s.1,
      )

  nodes_along : (i j t u : ℕ) (a : Name) → In (i, a, t) (map ends numbered) → In (j, a, u) (map ends numbered) → HasNodes i j → HasNodes t u
  nodes_along i j t u a h g p =
      let r = arc_nodes i t a h in
      let s = arc_nodes j u a g in
      let e : p.0 ≡ r.0 = one_at table i p.0 r.0 p.2 r.2 in
      let f : p.1 ≡ s.0 = one_at table j p.1 s.0 p.3 s.2 in
      let first : In (p.0, a, r.1) (arcs ls) = subst (λ (n : Node). In (n, a, r.1) (arcs ls)) (sym e) r.4 in
      let second : In (p.1, a, s.1) (arcs ls) = subst (λ (n : Node). In (n, a, s.1) (arcs ls)) (sym f) s.4 in
      (r.1, s.1, r.3, s.3, along p.4 first second)

  at_numbers : {i j : ℕ} → EqualNumbers (length table) pairs numbered i j → HasNodes i j
  at_numbers (itself {x = i} h) = nodes_itself i h
  at_numbers (stated {x = i} {y = j} h) = let s = stand.sound (i, j) h in (s.0.0, s.0.1, s.2.first, s.2.second, stated s.1)
  at_numbers (turned {x = i} {y = j} h) = let s = stand.sound (i, j) h in (s.0.1, s.0.0, s.2.second, s.2.first, turned s.1)
  at_numbers (joined {x = i} {y = j} {z = k} a b) = nodes_joined i j k (at_numbers a) (at_numbers b)
  at_numbers (along {x = i} {y = j} {t} {u} {a} e h g) = nodes_along i j t u a h g (at_numbers e)

  abbrev Class : Node → ℕ → Type 0
  Class = HasClass table labels

  -- the same nodes have one label
  pub same_forth : (x z : Node) → SameNode ls x z → (k : ℕ) × Class x k × Class z k
  same_forth x z h =
      let p = places h in
      with_label p ((divided.exact p.0 p.1).1 p.4)
    where
      with_label : (p : HasPlaces x z) → OneClass labels p.0 p.1 → (k : ℕ) × Class x k × Class z k
      with_label p (by_label {k} l r) = (k, record { number = p.0; node = p.2; class = l }, record { number = p.1; node = p.3; class = r })

  pub same_back : (x z : Node) (k : ℕ) → Class x k → Class z k → SameNode ls x z
  same_back x z k c d =
      let p = at_numbers ((divided.exact c.number d.number).0 (by_label c.class d.class)) in
      let e : p.0 ≡ x = one_at table c.number p.0 x p.2 c.node in
      let f : p.1 ≡ z = one_at table d.number p.1 z p.3 d.node in
      subst (λ (r : Node × Node). SameNode ls r.0 r.1) (λ i. (e i, f i)) p.4

  pub class_once : (x : Node) (i j : ℕ) → Class x i → Class x j → i ≡ j
  class_once x i j c d =
      let e : c.number ≡ d.number = place_once c.number d.number x c.node d.node in
      one_at labels d.number i j (subst (λ (n : ℕ). slice_get labels n ≡ Some i) e c.class) d.class

  same_itself : (x : Node) (k : ℕ) → Class x k → SameNode ls x x
  same_itself x k c = same_back x x k c c

  -- a node that is the same as one with the class has the class
  same_class : (x n : Node) (i : ℕ) → SameNode ls x n → Class x i → Class n i
  same_class x n i h c =
      let r = same_forth x n h in
      subst (λ (k : ℕ). Class n k) (class_once x r.0 i r.1 c) r.2

  label_at : (x : Node) (i k : ℕ) → slice_get table k ≡ Some x → Class x i → slice_get labels k ≡ Some i
  label_at x i k h c = subst (λ (n : ℕ). slice_get labels n ≡ Some i) (place_once c.number k x c.node h) c.class

  module _ (labelled : List Arc) (renamed : Corresponds (IsLabelled labels) (λ a. In a numbered) labelled) where
    pub arcs_forth : (i : ℕ) (a : Name) (j : ℕ) → In (record { from = i; attribute = a; to = j }) labelled → (x : Node) × (t : Node) × Class x i × Class t j × HasArc ls x a t
    arcs_forth i a j h =
        let r = renamed.sound (record { from = i; attribute = a; to = j }) h in
        let s = lead.sound r.0 r.1 in
        let c : Class s.0.0 i = record { number = r.0.from; node = s.2.start; class = r.2.start } in
        let d : Class s.0.2 j = record { number = r.0.to; node = s.2.end; class = r.2.end } in
        let e : s.0.1 ≡ a = sym s.2.attribute ∙ sym r.2.attribute in
        let k : In (s.0.0, a, s.0.2) (arcs ls) = subst (λ (n : Name). In (s.0.0, n, s.0.2) (arcs ls)) e s.1 in
        (s.0.0, s.0.2, c, d, arc (same_itself s.0.0 i c) k (same_itself s.0.2 j d))

    arc_between : (n u : Node) (a : Name) (i j : ℕ) → In (n, a, u) (arcs ls) → Class n i → Class u j → In (record { from = i; attribute = a; to = j }) labelled
    arc_between n u a i j h c d =
        let r = lead.all (n, a, u) h in
        let s = renamed.all r.0 r.1 in
        let from : s.0.from ≡ i = one_at labels r.0.from s.0.from i s.2.start (label_at n i r.0.from r.2.start c) in
        let to : s.0.to ≡ j = one_at labels r.0.to s.0.to j s.2.end (label_at u j r.0.to r.2.end d) in
        let name : s.0.attribute ≡ a = s.2.attribute ∙ r.2.attribute in
        let is : s.0 ≡ record { from = i; attribute = a; to = j } = λ k. record { from = from k; attribute = name k; to = to k } in
        subst (λ (e : Arc). In e labelled) is s.1

    pub arcs_back : (i : ℕ) (a : Name) (j : ℕ) (x t : Node) → Class x i → Class t j → HasArc ls x a t → In (record { from = i; attribute = a; to = j }) labelled
    arcs_back i a j x t c d (arc {n} {u} s h r) = arc_between n u a i j h (same_class x n i s c) (same_class t u j (turned_back r) d)
      where
        turned_back : {x z : Node} → SameNode ls x z → SameNode ls z x
        turned_back {x} {z} h = let r = same_forth x z h in same_back z x r.0 r.2 r.1

  module _ (found : List Value) (say : Corresponds (IsValueOf table labels) (λ p. In p (values ls)) found) where
    pub values_forth : (i : ℕ) (c : Constant) → In (record { class = i; constant = c }) found → (x : Node) × Class x i × HasValue ls x c
    values_forth i c h =
        let r = say.sound (record { class = i; constant = c }) h in
        let k : In (r.0.0, c) (values ls) = subst (λ (d : Constant). In (r.0.0, d) (values ls)) (sym r.2.constant) r.1 in
        (r.0.0, r.2.class, value (same_itself r.0.0 i r.2.class) k)

    value_at : (n : Node) (c : Constant) (i : ℕ) → In (n, c) (values ls) → Class n i → In (record { class = i; constant = c }) found
    value_at n c i h k =
        let r = say.all (n, c) h in
        let e : r.0.class ≡ i = class_once n r.0.class i r.2.class k in
        let is : r.0 ≡ record { class = i; constant = c } = λ j. record { class = e j; constant = r.2.constant j } in
        subst (λ (v : Value). In v found) is r.1

    pub values_back : (i : ℕ) (c : Constant) (x : Node) → Class x i → HasValue ls x c → In (record { class = i; constant = c }) found
    values_back i c x k (value {n} s h) = value_at n c i h (same_class x n i s k)

  module _ (found : List Membership) (say : Corresponds (IsMemberOf table labels) (λ p. In p (members ls)) found) where
    pub members_forth : (m i : ℕ) → In (record { item = m; set = i }) found → (k : Node) × (x : Node) × Class k m × Class x i × HasMember ls x k
    members_forth m i h =
        let r = say.sound (record { item = m; set = i }) h in
        (r.0.0, r.0.1, r.2.item, r.2.set, member (same_itself r.0.1 i r.2.set) r.1 (same_itself r.0.0 m r.2.item))

    member_at : (k n : Node) (m i : ℕ) → In (k, n) (members ls) → Class k m → Class n i → In (record { item = m; set = i }) found
    member_at k n m i h c d =
        let r = say.all (k, n) h in
        let e : r.0.item ≡ m = class_once k r.0.item m r.2.item c in
        let f : r.0.set ≡ i = class_once n r.0.set i r.2.set d in
        let is : r.0 ≡ record { item = m; set = i } = λ j. record { item = e j; set = f j } in
        subst (λ (v : Membership). In v found) is r.1

    pub members_back : (m i : ℕ) (k x : Node) → Class k m → Class x i → HasMember ls x k → In (record { item = m; set = i }) found
    members_back m i k x c d (member {n} {k = l} s h r) = member_at l n m i h (same_class k l m (turned_back r) c) (same_class x n i s d)
      where
        turned_back : {x z : Node} → SameNode ls x z → SameNode ls z x
        turned_back {x} {z} h = let r = same_forth x z h in same_back z x r.0 r.2 r.1

pub table_lists : (ls : List Literal) (ds table : List Node) → Lists node_cmp (λ n. In n (defined ls)) ds
    → Lists node_cmp (λ n. In n (ds ++ flat_map (λ l. flat_map starts (checks_of l)) ls)) table → Lists node_cmp (λ n. In n (nodes ls)) table
table_lists ls ds table d t = record { ascends = t.ascends; exact = λ n. ((λ h. (nodes_are ls n).0 (to n ((t.exact n).0 h))), (λ h. (t.exact n).1 (from n ((nodes_are ls n).1 h)))) }
  where
    to : (n : Node) → In n (ds ++ flat_map (λ l. flat_map starts (checks_of l)) ls) → In n (defined ls ++ flat_map (λ l. flat_map starts (checks_of l)) ls)
    to n h = elim (In-append_cases ds (flat_map (λ l. flat_map starts (checks_of l)) ls) h) [ inl a ↦ In-append_left _ ((d.exact n).0 a) | inr b ↦ In-append_right (defined ls) b ]

    from : (n : Node) → In n (defined ls ++ flat_map (λ l. flat_map starts (checks_of l)) ls) → In n (ds ++ flat_map (λ l. flat_map starts (checks_of l)) ls)
    from n h = elim (In-append_cases (defined ls) (flat_map (λ l. flat_map starts (checks_of l)) ls) h) [ inl a ↦ In-append_left _ ((d.exact n).1 a) | inr b ↦ In-append_right ds b ]

pub step_listed : (ls : List Literal) (ds table : List Node) → Lists node_cmp (λ n. In n (defined ls)) ds → Lists node_cmp (λ n. In n (nodes ls)) table
    → (x : Node) (a : Name) (t : Node) → In t ds → IsStep x a t → In x table
step_listed ls ds table d t x a n h s =
    let i = (arcs_are_steps ls ds d.exact (x, a, n)).0 (record { listed = h; step = s }) in
    (t.exact x).1 ((literals_between ls).arc_ends x a n i).0

pub given_listed : (ls : List Literal) (table : List Node) → Lists node_cmp (λ n. In n (nodes ls)) table → (x y : Node) → In (x, y) (given ls) → In x table × In y table
given_listed ls table t x y h = let e = (literals_between ls).given_pairs x y h in ((t.exact x).1 e.0, (t.exact y).1 e.1)

pub value_listed : (ls : List Literal) (table : List Node) → Lists node_cmp (λ n. In n (nodes ls)) table → (x : Node) (c : Constant) → In (x, c) (values ls) → In x table
value_listed ls table t x c h = (t.exact x).1 (value_node ls x c h)

pub member_listed : (ls : List Literal) (table : List Node) → Lists node_cmp (λ n. In n (nodes ls)) table → (k x : Node) → In (k, x) (members ls) → In k table × In x table
member_listed ls table t k x h = let e = member_node ls k x h in ((t.exact k).1 e.0, (t.exact x).1 e.1)

pub solves : (ls : List Literal) (s : Solution) (ds : List Node) (pairs : List (ℕ × ℕ)) (numbered : List Arc)
    → Lists node_cmp (λ n. In n (defined ls)) ds → Lists node_cmp (λ n. In n (nodes ls)) s.nodes.items
    → Corresponds (ArePlaces s.nodes.items) (λ p. In p (given ls)) pairs → Corresponds (IsArcOf s.nodes.items) (IsStepTo ds) numbered
    → Divides (length s.nodes.items) pairs numbered s.classes → Corresponds (IsLabelled s.classes) (λ a. In a numbered) s.arcs.items
    → Corresponds (IsValueOf s.nodes.items s.classes) (λ p. In p (values ls)) s.values.items → Corresponds (IsMemberOf s.nodes.items s.classes) (λ p. In p (members ls)) s.members.items
    → Solves ls s
solves ls s ds pairs numbered d t stand steps divided labelled values members =
    let lead : Corresponds (IsArcOf s.nodes.items) (λ e. In e (arcs ls)) numbered = Corresponds-iff (IsArcOf s.nodes.items) (IsStepTo ds) (λ e. In e (arcs ls)) numbered (arcs_are_steps ls ds d.exact) steps in
    record {
      nodes = t;
      covers = divided.covers;
      least = divided.least;
      same = λ x z. (same_forth ls s.nodes.items pairs numbered s.classes t stand lead divided x z, λ h. same_back ls s.nodes.items pairs numbered s.classes t stand lead divided x z h.0 h.1 h.2);
      arcs = λ i a j. (
        arcs_forth ls s.nodes.items pairs numbered s.classes t stand lead divided s.arcs.items labelled i a j,
        λ h. arcs_back ls s.nodes.items pairs numbered s.classes t stand lead divided s.arcs.items labelled i a j h.0 h.1 h.2 h.3 h.4,
      );
      values = λ i c. (
        values_forth ls s.nodes.items pairs numbered s.classes t stand lead divided s.values.items values i c,
        λ h. values_back ls s.nodes.items pairs numbered s.classes t stand lead divided s.values.items values i c h.0 h.1 h.2,
      );
      members = λ m i. (
        members_forth ls s.nodes.items pairs numbered s.classes t stand lead divided s.members.items members m i,
        λ h. members_back ls s.nodes.items pairs numbered s.classes t stand lead divided s.members.items members m i h.0 h.1 h.2 h.3 h.4,
      );
    }
