-- What classes are called.
use Rattle.std.proofs.Common.{◌≡◌, ℕ, ◌+◌, ◌<◌, ◌≤◌, true, false, ◌&&◌, ◌||◌, not, ◌⊎◌, inl, inr, List, [], ◌∷◌, ◌++◌, length, get_or, take, Some, refl, sym, ◌∙◌, ap, subst, arith, Less}
use Rattle.std.specs.Prelude.{◌↔◌, slice_get, slice_index_or}
use Rattle.std.proofs.lemmas.List.{take_all, get_or_append_left, get_or_push, length_push}
use Rattle.std.proofs.lemmas.Option.{same_Some, slice_get-get_or}
use Rattle.lfg_terms.specs.Order.{node_cmp}
use Rattle.lfg_terms.specs.OrderLaws.{node_cmp_total}
use Rattle.lfg_terms.specs.declared.node.Node.{Node}
use Rattle.lfg_terms.specs.declared.node.Arg as arg
use Rattle.lfg_terms.specs.declared.node.Arg.{Arg}
use Rattle.lfg_model.specs.declared.constant.Constant.{Constant}
use Rattle.lfg_model.specs.declared.constant.Constant.TheVariants as constant
use Rattle.lfg_model.specs.Lists.{In}
use Rattle.lfg_model.specs.Readings.{Called, by_atom, by_form, by_node, IsLeast}
use Rattle.lfg_model.proofs.Ascending.{once_from_total}
use Rattle.lfg_model.proofs.ListLaws.{In-nil, In-at, In-push_cases}
use Rattle.lfg_context.specs.Seen.{Set, Known}
use Rattle.lfg_context.specs.Sets.{Assignment, member, AreMade}
use Rattle.lfg_context.specs.Telling.{Tells, InSome}
use Rattle.lfg_context.proofs.Telling.{and_true, and_from, or_true, or_left, or_right, without_true, without_from, not_true, true_not_false}
use Rattle.lfg_unify.specs.Closures.{Row, Closed, Ascends, place_in, equal_at, SameAt, HasValueAt, closure_at}
use Rattle.lfg_unify.specs.Holding.{Stated}
use Rattle.lfg_unify.specs.Rows.{Stands}
use Rattle.lfg_unify.proofs.Places.{place_is, place_get, place_In}
use Rattle.lfg_facts.specs.Adding.{IsClosure, Adds}
use Rattle.lfg_facts.specs.Naming.{Names, constant_name, IsValueName, Holds, IsNodeName, IsBefore, names_in, AreNamesAt, AreNamesBelow, AreNames, AreTableSets}
use Rattle.lfg_facts.proofs.Classes.{equal_known}
use Rattle.lfg_facts.proofs.AddLaws.{adds_as, adds_both, adds_none, added_is, stated_nil}
use Rattle.lfg_facts.proofs.RowLaws.{get_beyond, stands_below, taken_lower, context_stands, stands_context, stands_one, stands_last, stands_more, node_before}

-- ---- values

pub value_name_adds : (k : Closed) (place p : ℕ) (value : Node × Constant × Set) (name : Arg) (same both : Set) (xs ys : Names) → name ≡ arg.Atom (constant_name value.1) → p ≡ place_in k.nodes value.0
    → same ≡ equal_at k place p → ((a : Assignment) → member both a ≡ (member same a && member value.2 a)) → Adds xs ys (λ y a. (y ≡ name) × (member both a ≡ true)) → Adds xs ys (λ c. IsValueName k place c value)
value_name_adds k place p value name same both xs ys named at is m h = adds_as (λ y a. (y ≡ name) × (member both a ≡ true)) (λ c. IsValueName k place c value) h (λ a c. (
  (λ w. let b = and_true (member same a) (member value.2 a) (sym (m a) ∙ w.1) in record { is = w.0 ∙ named; holds = b.1; same = sym (ap (λ z. member z a) where_is) ∙ b.0 }),
  (λ v. (v.is ∙ sym named, m a ∙ and_from (member same a) (member value.2 a) (ap (λ z. member z a) where_is ∙ v.same) v.holds)),
))
  where
    where_is : same ≡ equal_at k place (place_in k.nodes value.0)
    where_is = is ∙ ap (λ n. equal_at k place n) at

-- a name holds at the members of its set
pub told : (name : Arg × Set) → Tells name.1 (Holds name)
told name = record { each = λ a. ((λ h. h), λ h. h) }

-- ---- nodes

-- before the row, the set alone holds
pub before_none : (valued z : Set) (row : Row) → z ≡ valued → Tells z (IsBefore valued (take 0 row))
before_none valued z row e = record {
  each = λ a. (
    (λ h. record { either = inl (sym (ap (λ v. member v a) e) ∙ h) }),
    (λ b. ap (λ v. member v a) e ∙ elim b.either [ inl v ↦ v | inr s ↦ In-nil s.1.listed ]),
  );
}

pub before_more : (valued old z : Set) (row : Row) (n : ℕ) (d : ℕ × Set) → n < length row → d ≡ get_or row n d → Tells old (IsBefore valued (take n row)) → ((a : Assignment) → member z a ≡ (member old a || member d.1 a))
    → Tells z (IsBefore valued (take (n + 1) row))
before_more valued old z row n d l is t m = record {
  each = λ a. (
    (λ h. elim (or_true (member old a) (member d.1 a) (sym (m a) ∙ h)) [
      | inl o ↦ elim ((t.each a).0 o).either [ inl v ↦ record { either = inl v } | inr s ↦ record { either = inr (s.0, stands_one row n d a s.0 l s.1) } ]
      | inr e ↦ record { either = inr (d.0, stands_last row n d a l is e) }
    ]),
    (λ b. m a ∙ elim b.either [
      | inl v ↦ or_left (member old a) (member d.1 a) ((t.each a).1 (record { either = inl v }))
      | inr s ↦ elim (stands_more row n d a s.0 l is s.1) [
        | inl o ↦ or_left (member old a) (member d.1 a) ((t.each a).1 (record { either = inr (s.0, o) }))
        | inr e ↦ or_right (member old a) (member d.1 a) e.1
      ]
    ]),
  );
}

pub nodes_none : (xs : Names) (nodes : List Node) (row : Row) (valued : Set) → Adds xs xs (IsNodeName nodes (take 0 row) valued)
nodes_none xs nodes row valued = adds_none xs (IsNodeName nodes (take 0 row) valued) (λ a c q. In-nil q.stands.listed)

pub nodes_more : (nodes : List Node) (row : Row) (valued old first : Set) (xs ys zs : Names) (n : ℕ) (d : ℕ × Set) (node : Node) → n < length row → d ≡ get_or row n d → Ascends (length nodes) 0 row → d.0 < length nodes
    → node ≡ get_or nodes d.0 node → Tells old (IsBefore valued (take n row)) → ((a : Assignment) → member first a ≡ (member d.1 a && not (member old a)))
    → Adds xs ys (IsNodeName nodes (take n row) valued) → Adds ys zs (λ c a. (c ≡ arg.Node node) × (member first a ≡ true)) → Adds xs zs (IsNodeName nodes (take (n + 1) row) valued)
nodes_more nodes row valued old first xs ys zs n d node l is up within at t m f g =
    adds_both (IsNodeName nodes (take n row) valued) (λ c a. (c ≡ arg.Node node) × (member first a ≡ true)) (IsNodeName nodes (take (n + 1) row) valued) f g (λ a c. (
      (λ h. elim h [ inl p ↦ earlier a c p | inr q ↦ here_is a c q ]),
      (λ q. cases a c q),
    ))
  where
    there : slice_get nodes d.0 ≡ Some node
    there = slice_get-get_or nodes d.0 node within ∙ ap (λ x. Some x) (sym at)

    earlier : (a : Assignment) (c : Arg) → IsNodeName nodes (take n row) valued c a → IsNodeName nodes (take (n + 1) row) valued c a
    earlier a c p = record {
      place = p.place;
      node = p.node;
      there = p.there;
      is = p.is;
      stands = stands_one row n d a p.place l p.stands;
      first = λ y s. elim (stands_more row n d a y l is s) [
        | inl o ↦ p.first y o
        | inr e ↦ (let low = taken_lower (length nodes) 0 row n d p.place p.stands.set up l is p.stands.listed in omega (arith, low, e.0))
      ];
      free = p.free;
    }

    here_is : (a : Assignment) (c : Arg) → (c ≡ arg.Node node) × (member first a ≡ true) → IsNodeName nodes (take (n + 1) row) valued c a
    here_is a c q =
        let b = without_true (member d.1 a) (member old a) (sym (m a) ∙ q.1) in
        record {
          place = d.0;
          node = node;
          there = there;
          is = q.0;
          stands = stands_last row n d a l is b.0;
          first = λ y s. elim (stands_more row n d a y l is s) [
            | inl o ↦ absurd (b.1 ((t.each a).1 (record { either = inr (y, o) })))
            | inr e ↦ omega (arith, e.0)
          ];
          free = not_true (member valued a) (λ v. b.1 ((t.each a).1 (record { either = inl v })));
        }

    not_before : (a : Assignment) (c : Arg) (q : IsNodeName nodes (take (n + 1) row) valued c a) → q.place ≡ d.0 → member old a ≡ true → ⊥
    not_before a c q e o = elim ((t.each a).0 o).either [
      | inl v ↦ true_not_false v q.free
      | inr s ↦
          let low = taken_lower (length nodes) 0 row n d s.0 s.1.set up l is s.1.listed in
          let least = q.first s.0 (stands_one row n d a s.0 l s.1) in
          absurd (omega (arith, low, least, e))
    ]

    cases : (a : Assignment) (c : Arg) → IsNodeName nodes (take (n + 1) row) valued c a → IsNodeName nodes (take n row) valued c a ⊎ ((c ≡ arg.Node node) × (member first a ≡ true))
    cases a c q = elim (stands_more row n d a q.place l is q.stands) [
      | inl o ↦ inl (record {
        place = q.place;
        node = q.node;
        there = q.there;
        is = q.is;
        stands = o;
        first = λ y s. q.first y (stands_one row n d a y l s);
        free = q.free;
      })
      | inr e ↦
          let same : q.node ≡ node = same_Some q.node node (sym q.there ∙ ap (λ p. slice_get nodes p) e.0 ∙ there) in
          inr (q.is ∙ ap (λ x. arg.Node x) same, m a ∙ without_from (member d.1 a) (member old a) e.1 (not_before a c q e.0))
    ]

pub nodes_all : (xs ys : Names) (nodes : List Node) (row : Row) (valued : Set) (n : ℕ) → length row ≤ n → Adds xs ys (IsNodeName nodes (take n row) valued) → Adds xs ys (IsNodeName nodes row valued)
nodes_all xs ys nodes row valued n l h = subst (λ (r : Row). Adds xs ys (IsNodeName nodes r valued)) (take_all n row l) h

-- ---- the names of a class

module _ {c : Known} {k : Closed} (m : IsClosure c k) (x : Node) (ns all : Names) (valued : Set)
    (up : Ascends (length k.nodes) 0 (slice_index_or k.rows (place_in k.nodes x) []))
    (by_values : Adds [] ns (λ c. InSome k.values (IsValueName k (place_in k.nodes x) c)))
    (tells : Tells valued (InSome ns Holds))
    (by_nodes : Adds ns all (IsNodeName k.nodes (slice_index_or k.rows (place_in k.nodes x) []) valued)) where
  abbrev row : Row
  row = slice_index_or k.rows (place_in k.nodes x) []

  same_stands : (a : Assignment) (y : Node) → SameAt k a x y → Stands row a (place_in k.nodes y)
  same_stands a y s = context_stands k.empty row a (place_in k.nodes y) (m.is.none a) s

  stands_same : (a : Assignment) (y : Node) → Stands row a (place_in k.nodes y) → SameAt k a x y
  stands_same a y s = stands_context k.empty (length k.nodes) 0 row a (place_in k.nodes y) up s

  -- a value gives its name
  value_stated : (a : Assignment) (v : Constant) → HasValueAt k a x v → Stated ns a (arg.Atom (constant_name v))
  value_stated a v h = (added_is (λ c. InSome k.values (IsValueName k (place_in k.nodes x) c)) by_values a (arg.Atom (constant_name v))).1
      (record { item = (h.at, v, h.ctx); listed = h.listed; holds = record { is = refl; holds = h.holds; same = h.same } })

  stated_valued : (a : Assignment) (n : Arg) → Stated ns a n → member valued a ≡ true
  stated_valued a n s = (tells.each a).1 (record { item = (n, s.set); listed = s.listed; holds = s.holds })

  by_constant : (a : Assignment) (n : Arg) (v : Constant) → HasValueAt k a x v → n ≡ arg.Atom (constant_name v) → Called (closure_at k a) x n
  by_constant a n (constant.Atom name) h e = let P : Arg → Type 0 = λ w. Called (closure_at k a) x w in subst P (sym e) (by_atom h)
  by_constant a n (constant.Form form site index) h e = let P : Arg → Type 0 = λ w. Called (closure_at k a) x w in subst P (sym e) (by_form h)

  stated_called : (a : Assignment) (n : Arg) → Stated ns a n → Called (closure_at k a) x n
  stated_called a n s =
      let v = (added_is (λ c. InSome k.values (IsValueName k (place_in k.nodes x) c)) by_values a n).0 s in
      by_constant a n v.item.1 (record { at = v.item.0; ctx = v.item.2; listed = v.listed; holds = v.holds.holds; same = v.holds.same }) v.holds.is

  no_value : (a : Assignment) → member valued a ≡ false → (v : Constant) → ¬ HasValueAt k a x v
  no_value a free v h = true_not_false (stated_valued a (arg.Atom (constant_name v)) (value_stated a v h)) free

  node_called : (a : Assignment) (n : Arg) → IsNodeName k.nodes row valued n a → Called (closure_at k a) x n
  node_called a n q =
      let P : Arg → Type 0 = λ w. Called (closure_at k a) x w in
      let at : place_in k.nodes q.node ≡ q.place = place_is k.nodes q.node q.place m.is.nodes.ascends q.there in
      subst P (sym q.is) (by_node (no_value a q.free) (record {
        same = stands_same a q.node (subst (λ (p : ℕ). Stands row a p) (sym at) q.stands);
        least = λ w s less.
            let stands = same_stands a w s in
            let low = q.first (place_in k.nodes w) stands in
            let there = place_get k.nodes w (stands_below (length k.nodes) 0 row (place_in k.nodes w) stands.set up stands.listed) in
            elim (split q.place (place_in k.nodes w) low) [
              | inl e ↦
                  let one : q.node ≡ w = same_Some q.node w (sym q.there ∙ ap (λ p. slice_get k.nodes p) e ∙ there) in
                  let again : node_cmp w w ≡ Less = ap (λ v. node_cmp w v) (sym one) ∙ less in
                  once_from_total node_cmp_total w w again again
              | inr lower ↦ once_from_total node_cmp_total q.node w (node_before k.nodes q.place (place_in k.nodes w) q.node w m.is.nodes.ascends q.there there lower) less
            ];
      }))
    where
      split : (i j : ℕ) → i ≤ j → (i ≡ j) ⊎ (i < j)
      split i j h = grind arith

  least_named : (a : Assignment) (z : Node) → ((v : Constant) → ¬ HasValueAt k a x v) → IsLeast (closure_at k a) x z → IsNodeName k.nodes row valued (arg.Node z) a
  least_named a z free least = record {
    place = place_in k.nodes z;
    node = z;
    there = there;
    is = refl;
    stands = same_stands a z least.same;
    first = λ y s. elim (split (place_in k.nodes z) y) [
      | inl low ↦ low
      | inr lower ↦
          let within = stands_below (length k.nodes) 0 row y s.set up s.listed in
          let w = get_or k.nodes y z in
          let at : slice_get k.nodes y ≡ Some w = slice_get-get_or k.nodes y z within in
          let place : place_in k.nodes w ≡ y = place_is k.nodes w y m.is.nodes.ascends at in
          absurd (least.least w (stands_same a w (subst (λ (p : ℕ). Stands row a p) (sym place) s)) (node_before k.nodes y (place_in k.nodes z) w z m.is.nodes.ascends at there lower))
    ];
    free = not_true (member valued a) (λ h.
        let n = (tells.each a).0 h in
        let v = (added_is (λ c. InSome k.values (IsValueName k (place_in k.nodes x) c)) by_values a n.item.0).0 (record { set = n.item.1; listed = n.listed; holds = n.holds }) in
        free v.item.1 (record { at = v.item.0; ctx = v.item.2; listed = v.listed; holds = v.holds.holds; same = v.holds.same }));
  }
    where
      there : slice_get k.nodes (place_in k.nodes z) ≡ Some z
      there = place_get k.nodes z (place_In k.nodes z (equal_known a x z m least.same).1)

      split : (i j : ℕ) → (i ≤ j) ⊎ (j < i)
      split i j = grind arith

  called_stated : (a : Assignment) (n : Arg) → Called (closure_at k a) x n → Stated all a n
  called_stated a n (by_atom {a = name} v) = (by_nodes.each a n).1 (inl (value_stated a (constant.Atom name) v))
  called_stated a n (by_form {form} {site} {index} v) = (by_nodes.each a n).1 (inl (value_stated a (constant.Form form site index) v))
  called_stated a n (by_node {z} free least) = (by_nodes.each a n).1 (inr (least_named a z free least))

  pub names_of_node : (a : Assignment) (n : Arg) → Stated all a n ↔ Called (closure_at k a) x n
  names_of_node a n = (
    (λ s. elim ((by_nodes.each a n).0 s) [ inl o ↦ stated_called a n o | inr q ↦ node_called a n q ]),
    (λ h. called_stated a n h),
  )

-- the names of the node at a place
pub names_are : {c : Known} {k : Closed} (m : IsClosure c k) (place : ℕ) (ns all : Names) (valued : Set) (found : Row) → found ≡ slice_index_or k.rows place [] → Ascends (length k.nodes) 0 found
    → Adds [] ns (λ c. InSome k.values (IsValueName k place c)) → Tells valued (InSome ns Holds) → Adds ns all (IsNodeName k.nodes found valued) → AreNamesAt k place all
names_are {c} {k} m place ns all valued found is up by_values tells by_nodes = record {
  each = λ a x n at.
      let G : Row → Type 0 = λ r. Ascends (length k.nodes) 0 r in
      let H : Row → Type 0 = λ r. Adds ns all (IsNodeName k.nodes r valued) in
      let F : ℕ → Type 0 = λ p. Ascends (length k.nodes) 0 (slice_index_or k.rows p []) → Adds [] ns (λ c. InSome k.values (IsValueName k p c)) → Adds ns all (IsNodeName k.nodes (slice_index_or k.rows p []) valued)
      → Stated all a n ↔ Called (closure_at k a) x n in
      subst F at (λ u v w. names_of_node m x ns all valued u v tells w a n) (subst G is up) by_values (subst H is by_nodes);
}

-- ---- the table of names

pub table_none : (k : Closed) → AreNamesBelow k []
table_none k = record { each = λ place l. absurd (omega arith) }

pub table_more : (k : Closed) (table new : List Names) (names : Names) → new ≡ table ++ names ∷ [] → AreNamesBelow k table → AreNamesAt k (length table) names → AreNamesBelow k new
table_more k table new names e below at = let P : List Names → Type 0 = λ t. AreNamesBelow k t in subst P (sym e) (record {
  each = λ place l. elim (split place (length table)) [
    | inl lower ↦ (let Q : Names → Type 0 = λ ns. AreNamesAt k place ns in subst Q (sym (get_or_append_left table (names ∷ []) [] place lower)) (below.each place lower))
    | inr same ↦
        let Q : ℕ → Type 0 = λ p. AreNamesAt k p (names_in (table ++ names ∷ []) p) in
        let R : Names → Type 0 = λ ns. AreNamesAt k (length table) ns in
        subst Q (sym (same (omega (arith, l, length_push table names)))) (subst R (sym (get_or_push table names [] (length table) refl)) at)
  ];
})
  where
    split : (i j : ℕ) → (i < j) ⊎ (i < j + 1 → i ≡ j)
    split i j = grind arith

pub table_all : {c : Known} (k : Closed) (table : List Names) → IsClosure c k → length table ≡ length k.nodes → AreNamesBelow k table → AreNames k table
table_all k table m len below = record {
  each = λ a x n. elim (split (place_in k.nodes x) (length table)) [
    | inl l ↦ (below.each (place_in k.nodes x) l).each a x n refl
    | inr g ↦
        let none : names_in table (place_in k.nodes x) ≡ [] = get_beyond table (place_in k.nodes x) [] g in (
          (λ s. let P : Names → Type 0 = λ ns. Stated ns a n in absurd (stated_nil a n (subst P none s))),
          (λ h. let l = place_In k.nodes x (called_known a x n h) in absurd (omega (arith, l, g, len))),
        )
  ];
}
  where
    split : (i j : ℕ) → (i < j) ⊎ (j ≤ i)
    split i j = grind arith

    called_known : (a : Assignment) (x : Node) (n : Arg) → Called (closure_at k a) x n → In x k.nodes
    called_known a x n (by_atom v) = (equal_known a x v.at m v.same).0
    called_known a x n (by_form v) = (equal_known a x v.at m v.same).0
    called_known a x n (by_node free least) = (equal_known a x _ m least.same).0

-- sets of names
pub table_made_push : {c : Known} {table new : List Names} (names : Names) → new ≡ table ++ names ∷ [] → AreTableSets c table → AreMade c (λ n. n.1) names → AreTableSets c new
table_made_push {c} {table} {new} names e m one = let P : List Names → Type 0 = λ t. AreTableSets c t in subst P (sym e) (record {
  each = λ ns i. elim (In-push_cases table names i) [
    | inl j ↦ m.each ns j
    | inr same ↦ (let Q : Names → Type 0 = λ v. AreMade c (λ n. n.1) v in subst Q (sym same) one)
  ];
})

pub table_made_nil : (c : Known) → AreTableSets c []
table_made_nil c = record { each = λ ns i. In-nil i }

pub names_made : {c : Known} (table : List Names) (place : ℕ) (names : Names) → names ≡ names_in table place → AreTableSets c table → AreMade c (λ n. n.1) names
names_made {c} table place names e m = let Q : Names → Type 0 = λ v. AreMade c (λ n. n.1) v in subst Q (sym e) (elim (split place (length table)) [
  | inl l ↦ m.each (names_in table place) (In-at table place [] l)
  | inr g ↦ subst Q (sym (get_beyond table place [] g)) (record { each = λ n i. In-nil i })
])
  where
    split : (i j : ℕ) → (i < j) ⊎ (j ≤ i)
    split i j = grind arith
