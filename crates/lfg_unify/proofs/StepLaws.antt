-- The arcs of literals are the steps to the nodes that defining literals name.
use Rattle.std.proofs.Common.{◌≡◌, List, [], ◌∷◌, ◌++◌, map, Option, Some, None, refl, sym, ap, subst, ◌∙◌, inl, inr, ◌⊎◌}
use Rattle.std.specs.Prelude.{◌↔◌, true, false}
use Rattle.std.specs.List.{flat_map}
use Rattle.std.proofs.lemmas.Option.{same_Some}
use Rattle.lfg_terms.specs.declared.node.Edge.{Edge}
use Rattle.lfg_terms.specs.declared.node.Node as node
use Rattle.lfg_terms.specs.declared.node.Node.{Node}
use Rattle.lfg_terms.specs.declared.literal.Literal.{Literal}
use Rattle.lfg_model.specs.Lists.{In, here, later}
use Rattle.lfg_model.specs.Terms.{Name, Path}
use Rattle.lfg_model.specs.Literals.{prefixes, steps, with_prefixes, arcs_to, named, arcs, nodes, values, values_of, members, members_of}
use Rattle.lfg_model.specs.declared.constant.Constant.{Constant}
use Rattle.lfg_terms.specs.declared.literal.Literal.TheVariants as literal
use Rattle.lfg_model.proofs.ListLaws.{In-append_left, In-map, In_from_map, In-nil, In-one, In-cons_cases, In-flat_map, In_from_flat_map}
use Rattle.lfg_unify.specs.Marks.{IsStep, found_in}

-- ---- steps

path_of : Node → Path
path_of (node.At e p) = p
path_of n = []

edge_of : Node → Option Edge
edge_of (node.At e p) = Some e
edge_of n = None

at_parts : (e f : Edge) (p q : Path) → node.At e p ≡ node.At f q → (e ≡ f) × (p ≡ q)
unfolding path_of edge_of
at_parts e f p q h = (same_Some e f (ap edge_of h), ap path_of h)

snoc_parts : (p q : Path) (a b : Name) → p ++ a ∷ [] ≡ q ++ b ∷ [] → (p ≡ q) × (a ≡ b)
snoc_parts [] [] a b h = (refl, cc)
snoc_parts [] (y ∷ []) a b h = cc
snoc_parts [] (y ∷ z ∷ q) a b h = cc
snoc_parts (x ∷ []) [] a b h = cc
snoc_parts (x ∷ z ∷ p) [] a b h = cc
snoc_parts (x ∷ p) (y ∷ q) a b h =
    let e : x ≡ y = cc in
    let t : p ++ a ∷ [] ≡ q ++ b ∷ [] = cc in
    let r = snoc_parts p q a b t in
    (λ i. e i ∷ r.0 i, r.1)

pub step_once : {x y : Node} {a b : Name} (t : Node) → IsStep x a t → IsStep y b t → (x ≡ y) × (a ≡ b)
step_once t s r =
    let e = at_parts s.edge r.edge (s.path ++ _ ∷ []) (r.path ++ _ ∷ []) (sym s.end ∙ r.end) in
    let q = snoc_parts s.path r.path _ _ e.1 in
    (s.start ∙ (λ i. node.At (e.0 i) (q.0 i)) ∙ sym r.start, q.1)

steps_In : (p q r : Path) (b : Name) → In r (prefixes p) → r ≡ q ++ b ∷ [] → In (q, b) (steps p)
steps_In [] q r b h e = no_step q b (sym (In-one h) ∙ e)
  where
    no_step : (q : Path) (b : Name) → [] ≡ q ++ b ∷ [] → In {X = Path × Name} (q, b) []
    no_step [] b e = cc
    no_step (x ∷ q) b e = cc
steps_In (a ∷ p) q r b h e = elim (In-cons_cases h) [
  | inl z ↦ no_step q b (sym z ∙ e)
  | inr l ↦ let m = In_from_map (λ q. a ∷ q) (prefixes p) l in deeper q m.0 (m.2 ∙ e) (λ q f. steps_In p q m.0 b m.1 f)
]
  where
    no_step : (q : Path) (b : Name) → [] ≡ q ++ b ∷ [] → In (q, b) (steps (a ∷ p))
    no_step [] b e = cc
    no_step (x ∷ q) b e = cc

    deeper : (q s : Path) → a ∷ s ≡ q ++ b ∷ [] → ((q : Path) → s ≡ q ++ b ∷ [] → In (q, b) (steps p)) → In (q, b) (steps (a ∷ p))
    deeper [] s f rest = let g : a ≡ b = cc in subst (λ (n : Name). In ([], n) (steps (a ∷ p))) g here
    deeper (x ∷ q) s f rest =
        let g : a ≡ x = cc in
        let t : s ≡ q ++ b ∷ [] = cc in
        let k : In (a ∷ q, b) (steps (a ∷ p)) = later (In-map (λ s. (a ∷ s.0, s.1)) (rest q t)) in
        subst (λ (n : Name). In (n ∷ q, b) (steps (a ∷ p))) g k

In-steps : (p q : Path) (b : Name) → In (q, b) (steps p) → In (q ++ b ∷ []) (prefixes p)
In-steps [] q b h = In-nil h
In-steps (a ∷ p) q b h = elim (In-cons_cases h) [
  | inl e ↦ let f : q ≡ [] = ap (λ s. s.0) e in let g : b ≡ a = ap (λ s. s.1) e in rw (f, g) (later (In-map (λ q. a ∷ q) (first p)))
  | inr l ↦
      let m = In_from_map (λ s. (a ∷ s.0, s.1)) (steps p) l in
      let k : In (a ∷ (m.0.0 ++ m.0.1 ∷ [])) (prefixes (a ∷ p)) = later (In-map (λ q. a ∷ q) (In-steps p m.0.0 m.0.1 m.1)) in
      let f : a ∷ m.0.0 ≡ q = ap (λ s. s.0) m.2 in
      let g : m.0.1 ≡ b = ap (λ s. s.1) m.2 in
      subst (λ (s : Path × Name). In (s.0 ++ s.1 ∷ []) (prefixes (a ∷ p))) (λ i. (f i, g i)) k
]
  where
    first : (p : Path) → In [] (prefixes p)
    first [] = here
    first (a ∷ p) = here

-- the arcs on the way to a node are the steps to the nodes on the way
arcs_to_steps : (n x : Node) (a : Name) (t : Node) → In (x, a, t) (arcs_to n) → In t (with_prefixes n) × IsStep x a t
arcs_to_steps (node.At e p) x a t h =
    let m = In_from_map (λ s. (node.At e s.0, s.1, node.At e (s.0 ++ s.1 ∷ []))) (steps p) h in
    let f : node.At e m.0.0 ≡ x = ap (λ r. r.0) m.2 in
    let g : m.0.1 ≡ a = ap (λ r. r.1) m.2 in
    let k : node.At e (m.0.0 ++ m.0.1 ∷ []) ≡ t = ap (λ r. r.2) m.2 in (
      subst (λ (n : Node). In n (with_prefixes (node.At e p))) k (In-map (λ q. node.At e q) (In-steps p m.0.0 m.0.1 m.1)),
      record { edge = e; path = m.0.0; start = sym f; end = sym k ∙ (λ i. node.At e (m.0.0 ++ g i ∷ [])) },
    )
arcs_to_steps n x a t h = In-nil h

no_At : (n : Node) → path_of n ≡ [] → (p : Path) (a : Name) → path_of n ≡ p ++ a ∷ [] → ⊥
no_At n z [] a e = let f : [] ≡ a ∷ [] = sym z ∙ e in cc
no_At n z (x ∷ p) a e = let f : [] ≡ x ∷ (p ++ a ∷ []) = sym z ∙ e in cc

steps_arcs_to : (n x : Node) (a : Name) (t : Node) → In t (with_prefixes n) → IsStep x a t → In (x, a, t) (arcs_to n)
unfolding path_of
steps_arcs_to (node.At e p) x a t h s =
    let m = In_from_map (λ q. node.At e q) (prefixes p) h in
    let f = at_parts e s.edge m.0 (s.path ++ a ∷ []) (m.2 ∙ s.end) in
    let k = In-map (λ s. (node.At e s.0, s.1, node.At e (s.0 ++ s.1 ∷ []))) (steps_In p s.path m.0 a m.1 f.1) in
    let g : node.At e s.path ≡ x = (λ i. node.At (f.0 i) s.path) ∙ sym s.start in
    let l : node.At e (s.path ++ a ∷ []) ≡ t = (λ i. node.At (f.0 i) (s.path ++ a ∷ [])) ∙ sym s.end in
    subst (λ (r : Node × Name × Node). In r (arcs_to (node.At e p))) (λ i. (g i, a, l i)) k
steps_arcs_to n x a t h s = absurd (no_At t (ap path_of (In-one h)) s.path a (ap path_of s.end))

-- the nodes that defining literals name, with all nodes on the way to them
abbrev pub defined : List Literal → List Node
defined ls = flat_map (found_in false) ls

pub arc_step : (ls : List Literal) (x : Node) (a : Name) (t : Node) → In (x, a, t) (arcs ls) → In t (defined ls) × IsStep x a t
arc_step ls x a t h =
    let l = In_from_flat_map (λ l. flat_map arcs_to (named l)) ls h in
    let n = In_from_flat_map arcs_to (named l.0) l.2 in
    let r = arcs_to_steps n.0 x a t n.2 in
    (In-flat_map (found_in false) l.1 (In-flat_map with_prefixes n.1 r.0), r.1)

pub step_arc : (ls : List Literal) (x : Node) (a : Name) (t : Node) → In t (defined ls) → IsStep x a t → In (x, a, t) (arcs ls)
step_arc ls x a t h s =
    let l = In_from_flat_map (found_in false) ls h in
    let n = In_from_flat_map with_prefixes (named l.0) l.2 in
    In-flat_map (λ l. flat_map arcs_to (named l)) l.1 (In-flat_map arcs_to n.1 (steps_arcs_to n.0 x a t n.2 s))

whole_node : (ls : List Literal) (n : Node) → In n (defined ls) → In n (nodes ls)
whole_node ls n h =
    let l = In_from_flat_map (found_in false) ls h in
    In-flat_map (found_in true) l.1 (In-append_left _ l.2)

-- the nodes that literals speak of are nodes
itself_listed : (n : Node) → In n (with_prefixes n)
itself_listed (node.At e p) = In-map (λ q. node.At e q) (whole p)
  where
    whole : (p : Path) → In p (prefixes p)
    whole [] = here
    whole (a ∷ p) = later (In-map (λ q. a ∷ q) (whole p))
itself_listed n = here

named_node : (ls : List Literal) (l : Literal) (n : Node) → In l ls → In n (named l) → In n (nodes ls)
named_node ls l n i j = whole_node ls n (In-flat_map (found_in false) i (In-flat_map with_prefixes j (itself_listed n)))

value_named : (l : Literal) (x : Node) (c : Constant) → In (x, c) (values_of l) → In x (named l)
value_named (literal.Equal a b) x c h = In-nil h
value_named (literal.Value n a) x c h = rw (ap (λ p. p.0) (In-one h)) here
value_named (literal.Form n f s i) x c h = rw (ap (λ p. p.0) (In-one h)) here
value_named (literal.Member m s) x c h = In-nil h
value_named (literal.Check k) x c h = In-nil h
value_named (literal.Mark m) x c h = In-nil h

pub value_node : (ls : List Literal) (x : Node) (c : Constant) → In (x, c) (values ls) → In x (nodes ls)
value_node ls x c h = let l = In_from_flat_map values_of ls h in named_node ls l.0 x l.1 (value_named l.0 x c l.2)

member_named : (l : Literal) (k x : Node) → In (k, x) (members_of l) → In k (named l) × In x (named l)
member_named (literal.Equal a b) k x h = In-nil h
member_named (literal.Value n a) k x h = In-nil h
member_named (literal.Form n f s i) k x h = In-nil h
member_named (literal.Member m s) k x h = (rw (ap (λ p. p.0) (In-one h)) here, rw (ap (λ p. p.1) (In-one h)) (later here))
member_named (literal.Check c) k x h = In-nil h
member_named (literal.Mark m) k x h = In-nil h

pub member_node : (ls : List Literal) (k x : Node) → In (k, x) (members ls) → In k (nodes ls) × In x (nodes ls)
member_node ls k x h = let l = In_from_flat_map members_of ls h in let e = member_named l.0 k x l.2 in (named_node ls l.0 k l.1 e.0, named_node ls l.0 x l.1 e.1)
