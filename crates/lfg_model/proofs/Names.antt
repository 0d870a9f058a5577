-- Each class of a list of literals has a name, and facts come from listed arcs and members.
use Rattle.std.proofs.Common.{◌≡◌, List, [], ◌∷◌, refl, sym, ◌∙◌, ap, subst, inl, inr, ◌⊎◌, Ordering}
use Rattle.std.specs.declared.cmp.Ordering.TheVariants as order
use Rattle.std.specs.Ordering.{ordering_reverse}
use Rattle.lfg_terms.specs.Order.{node_cmp}
use Rattle.lfg_terms.specs.OrderLaws.{node_cmp_total}
use Rattle.lfg_terms.specs.declared.node.Node.{Node}
use Rattle.lfg_terms.specs.declared.node.Arg as arg
use Rattle.lfg_terms.specs.declared.node.Arg.{Arg}
use Rattle.lfg_terms.specs.declared.node.Fact.{Fact}
use Rattle.lfg_terms.specs.declared.literal.Literal.{Literal}
use Rattle.lfg_model.specs.declared.constant.Constant.{Constant}
use Rattle.lfg_model.specs.declared.constant.Constant.TheVariants as constant
use Rattle.lfg_model.specs.Lists.{In, here, later}
use Rattle.lfg_model.specs.Terms.{Name}
use Rattle.lfg_model.specs.Equal.{Equal, itself, stated, turned, joined, along}
use Rattle.lfg_model.specs.Literals.{nodes, arcs, values}
use Rattle.lfg_model.specs.Solve.{SameNode, HasArc, arc, HasValue, value, solution}
use Rattle.lfg_model.specs.Readings.{Called, by_atom, by_form, by_node, IsFact, of_arc, has_attribute, ClassesHaveOneName}
use Rattle.lfg_model.proofs.ListLaws.{In-nil, In-cons_cases}
use Rattle.lfg_model.proofs.RoundLaws.{node_tells, name_tells, decided}
use Rattle.lfg_model.proofs.LiteralLaws.{literals_between}
use Rattle.lfg_model.proofs.SolutionLaws.{Equal-sym, solution_of_classes, Called-same, one_name}
use Rattle.lfg_model.proofs.Classing.{Equal-ends}

-- equality goes by what stands in the lists, not by where or how often
pub Equal-wider : {X A : Type 0} {ns ms : List X} {ps qs : List (X × X)} {rs ss : List (X × A × X)}
    → ((x : X) → In x ns → In x ms) → ((x y : X) → In (x, y) ps → In (x, y) qs) → ((x : X) (a : A) (t : X) → In (x, a, t) rs → In (x, a, t) ss)
    → {x y : X} → Equal ns ps rs x y → Equal ms qs ss x y
Equal-wider n p r (itself i) = itself (n _ i)
Equal-wider n p r (stated i) = stated (p _ _ i)
Equal-wider n p r (turned i) = turned (p _ _ i)
Equal-wider n p r (joined a b) = joined (Equal-wider n p r a) (Equal-wider n p r b)
Equal-wider n p r (along e i j) = along (Equal-wider n p r e) (r _ _ _ i) (r _ _ _ j)

module _ (ls : List Literal) where
  -- whether two nodes are the same is decided
  pub same_decided : (x y : Node) → SameNode ls x y ⊎ (SameNode ls x y → ⊥)
  same_decided x y = decided _ _ node_tells name_tells (nodes ls) _ (arcs ls) (literals_between ls) x y

  -- the fact of a listed arc, with what its ends are called
  pub record OfListedArc (f : Fact) : Type 0 where
    pub from : Node
    pub name : Name
    pub to : Node
    pub listed : In (from, name, to) (arcs ls)
    pub source : Arg
    pub target : Arg
    pub called_source : Called (solution ls) from source
    pub called_target : Called (solution ls) to target
    pub is : f ≡ has_attribute name source target

  pub listed_arc_of : (x t : Node) (a : Name) (c u : Arg) → HasArc ls x a t → Called (solution ls) x c → Called (solution ls) t u → OfListedArc (has_attribute a c u)
  listed_arc_of x t a c u (arc {n} {u = m} s i r) cx ct = record {
    from = n;
    name = a;
    to = m;
    listed = i;
    source = c;
    target = u;
    called_source = Called-same (solution ls) (solution_of_classes ls) x n c (Equal-sym s) cx;
    called_target = Called-same (solution ls) (solution_of_classes ls) t m u r ct;
    is = refl;
  }

  pub fact_of_listed_arc : (f : Fact) → OfListedArc f → IsFact (solution ls) f
  fact_of_listed_arc f r =
      let ends = (literals_between ls).arc_ends r.from r.name r.to r.listed in
      rw r.is (of_arc (arc (itself ends.0) r.listed (itself ends.1)) r.called_source r.called_target)

  -- ---- a constant of the class, if it has one

  SomeValue : List (Node × Constant) → Node → Type 0
  SomeValue vs x = (n : Node) × (c : Constant) × In (n, c) vs × SameNode ls x n

  find_value : (vs : List (Node × Constant)) (x : Node) → SomeValue vs x ⊎ (SomeValue vs x → ⊥)
  unfolding SomeValue
  find_value [] x = inr (λ s. In-nil s.2)
  find_value (v ∷ vs) x = go (same_decided x v.0) (find_value vs x)
    where
      go : SameNode ls x v.0 ⊎ (SameNode ls x v.0 → ⊥) → SomeValue vs x ⊎ (SomeValue vs x → ⊥) → SomeValue (v ∷ vs) x ⊎ (SomeValue (v ∷ vs) x → ⊥)
      go (inl s) rest = inl (v.0, v.1, here, s)
      go (inr n) (inl s) = inl (s.0, s.1, later s.2, s.3)
      go (inr n) (inr none) =
          inr (λ s. elim (In-cons_cases s.2) [ inl e ↦ n (subst (λ (m : Node). SameNode ls x m) (ap (λ p. p.0) e) s.3) | inr i ↦ none (s.0, s.1, i, s.3) ])

  -- ---- the least node of a list that is the same

  LeastOf : List Node → Node → Node → Type 0
  LeastOf ns x z = SameNode ls x z × ((w : Node) → In w ns → SameNode ls x w → ¬ (node_cmp w z ≡ order.Less))

  not_before_itself : (z : Node) → ¬ (node_cmp z z ≡ order.Less)
  not_before_itself z e = let k : order.Less ≡ order.Greater = sym e ∙ node_cmp_total.antisymm z z ∙ ap ordering_reverse e in cc

  keep : (ns : List Node) (x z n u : Node) → LeastOf (z ∷ ns) x u → (SameNode ls x n → ¬ (node_cmp n u ≡ order.Less)) → LeastOf (z ∷ n ∷ ns) x u
  unfolding LeastOf
  keep ns x z n u l behind = (
    l.0,
    λ w i e. elim (In-cons_cases i) [
      | inl q ↦ l.1 w (rw q here) e
      | inr j ↦ elim (In-cons_cases j) [
        | inl q ↦ rw q (behind (subst (λ (m : Node). SameNode ls x m) q e))
        | inr k ↦ l.1 w (later k) e
      ]
    ],
  )

  take : (ns : List Node) (x z n u : Node) → LeastOf (z ∷ ns) x u → SameNode ls x n → node_cmp n u ≡ order.Less → LeastOf (z ∷ n ∷ ns) x n
  unfolding LeastOf
  take ns x z n u l s before = (
    s,
    λ w i e. elim (In-cons_cases i) [
      | inl q ↦ λ less. l.1 w (rw q here) e (node_cmp_total.trans w n u less before)
      | inr j ↦ elim (In-cons_cases j) [
        | inl q ↦ rw q (not_before_itself n)
        | inr k ↦ λ less. l.1 w (later k) e (node_cmp_total.trans w n u less before)
      ]
    ],
  )

  next : (ns : List Node) (x z n u : Node) → LeastOf (z ∷ ns) x u → (v : Node) × LeastOf (z ∷ n ∷ ns) x v
  next ns x z n u l = go (same_decided x n)
    where
      by_order : SameNode ls x n → (o : Ordering) → node_cmp n u ≡ o → (v : Node) × LeastOf (z ∷ n ∷ ns) x v
      by_order s order.Less e = (n, take ns x z n u l s e)
      by_order s order.Equal e = (u, keep ns x z n u l (λ t less. let k : order.Equal ≡ order.Less = sym e ∙ less in cc))
      by_order s order.Greater e = (u, keep ns x z n u l (λ t less. let k : order.Greater ≡ order.Less = sym e ∙ less in cc))

      go : SameNode ls x n ⊎ (SameNode ls x n → ⊥) → (v : Node) × LeastOf (z ∷ n ∷ ns) x v
      go (inl s) = by_order s (node_cmp n u) refl
      go (inr other) = (u, keep ns x z n u l (λ t less. other t))

  least_of : (ns : List Node) (x z : Node) → SameNode ls x z → (u : Node) × LeastOf (z ∷ ns) x u
  unfolding LeastOf
  least_of [] x z s = (z, (s, λ w i e. elim (In-cons_cases i) [ inl q ↦ rw q (not_before_itself z) | inr j ↦ In-nil j ]))
  least_of (n ∷ ns) x z s = let l = least_of ns x z s in next ns x z n l.0 l.1

  -- the class of each node has a name
  pub each_named : (x : Node) → In x (nodes ls) → (c : Arg) × Called (solution ls) x c
  unfolding SomeValue LeastOf
  each_named x i = elim (find_value (values ls) x) [
    | inl s ↦ by_constant s.1 (value s.3 s.2)
    | inr none ↦
        let l = least_of (nodes ls) x x (itself i) in (
          arg.Node l.0,
          by_node (λ c v. no_value none c v) (record {
            same = l.1.0;
            least = λ w s. l.1.1 w (later (Equal-ends (literals_between ls) s).1) s;
          }),
        )
  ]
    where
      by_constant : (c : Constant) → HasValue ls x c → (d : Arg) × Called (solution ls) x d
      by_constant (constant.Atom a) v = (arg.Atom a, by_atom v)
      by_constant (constant.Form form site index) v = (arg.Atom form.name, by_form v)

      no_value : (SomeValue (values ls) x → ⊥) → (c : Constant) → ¬ HasValue ls x c
      no_value none c (value {n} s i) = none (n, c, i, s)

pub classes_have_one_name : ClassesHaveOneName
classes_have_one_name ls sound x i =
    let c = each_named ls x i in
    (c.0, c.1, λ d h. one_name (solution ls) (solution_of_classes ls) sound x d c.0 h c.1)
