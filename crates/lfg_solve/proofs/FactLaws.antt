-- The facts of a solution, by its numbers.
use Rattle.std.proofs.Common.{◌≡◌, ℕ, suc, ◌+◌, ◌<◌, ◌≤◌, Option, Some, None, List, ◌++◌, refl, sym, ap, subst, ◌∙◌, arith, inl, inr, ◌⊎◌}
use Rattle.std.specs.Prelude.{◌==◌, slice_get, codes}
use Rattle.std.specs.declared.cmp.Ordering.TheVariants as order
use Rattle.std.specs.List.{flat_map}
use Rattle.std.specs.List.Sorted.{IsStrictlySortedBy}
use Rattle.std.specs.Cmp.Lexicographic.{same_text}
use Rattle.std.proofs.lemmas.Bool.{eqb-true, eq-eqb, false≢true}
use Rattle.std.proofs.lemmas.Cmp.{nat_list_eq_equiv}
use Rattle.std.proofs.lemmas.Option.{same_Some, slice_get_cases, slice_get_within, get_or_from_slice_get}
use Rattle.std.proofs.lemmas.Map.Keys.{Less-from_sorted}
use Rattle.lfg_terms.specs.Order.{node_cmp, fact_cmp}
use Rattle.lfg_terms.specs.OrderLaws.{node_cmp_total}
use Rattle.lfg_terms.specs.declared.node.Node.{Node}
use Rattle.lfg_terms.specs.declared.node.Arg as arg
use Rattle.lfg_terms.specs.declared.node.Arg.{Arg}
use Rattle.lfg_terms.specs.declared.node.Fact.{Fact}
use Rattle.lfg_terms.specs.declared.grammar.Form.{Form}
use Rattle.lfg_terms.specs.declared.literal.Literal.{Literal}
use Rattle.lfg_model.specs.declared.constant.Constant.{Constant}
use Rattle.lfg_model.specs.declared.constant.Constant.TheVariants as constant
use Rattle.lfg_model.specs.Lists.{In, Lists}
use Rattle.lfg_model.specs.Terms.{Name, same_name}
use Rattle.lfg_model.specs.Solve.{pred, Clash, HasForm, HasArc, HasMember, HasValue, solution}
use Rattle.lfg_model.specs.Readings.{IsLeast, Called, by_atom, by_form, by_node, IsFact, of_arc, of_member, of_inner, of_outer, has_attribute, in_set, argument, nonargument}
use Rattle.lfg_model.proofs.Ascending.{once_from_total}
use Rattle.lfg_model.proofs.ListLaws.{In-nil, In-append_left, In-append_right, In-append_cases, In-flat_map, In_from_flat_map}
use Rattle.lfg_model.proofs.SolutionLaws.{solution_of_classes, one_name}
use Rattle.lfg_solve.specs.declared.classes.Arc.{Arc}
use Rattle.lfg_solve.specs.declared.solution.Value.{Value}
use Rattle.lfg_solve.specs.declared.solution.Solution.{Solution}
use Rattle.lfg_solve.specs.NumberedFacts.{constant_name, first_value, name_by, name_in, pair_facts, function_facts, constant_facts, value_facts, values_facts, pred_facts, arc_facts, member_facts, numbered_facts}
use Rattle.lfg_solve.specs.Solves.{ClassOf, Solves}
use Rattle.lfg_solve.proofs.FactLists.{function_at, function_from, pair_from, pair_at, tested, passed, found_by, none_passes}
use Rattle.lfg_solve.proofs.Numbered.{class_once, class_of_value, class_of_arc, class_of_member, value_of_class, form_numbers}
use Rattle.lfg_solve.proofs.Tables.{one_at}

-- in a table that ascends, no element comes before one with a lower place
not_before : (nodes : List Node) (i m : ℕ) (n w : Node) → IsStrictlySortedBy node_cmp nodes → slice_get nodes i ≡ Some n → slice_get nodes m ≡ Some w → i ≤ m → ¬ (node_cmp w n ≡ order.Less)
not_before nodes i m n w s h g l less = elim (le_cases i m l) [
  | inl e ↦
      let same : w ≡ n = one_at nodes m w n g (subst (λ (k : ℕ). slice_get nodes k ≡ Some n) e h) in
      let both : node_cmp n n ≡ order.Less = subst (λ (z : Node). node_cmp z n ≡ order.Less) same less in
      once_from_total node_cmp_total n n both both
  | inr b ↦
      let other = Less-from_sorted node_cmp nodes i m w s b (slice_get_within nodes m w g) in
      let e : node_cmp n w ≡ order.Less = rw (get_or_from_slice_get nodes i n w h, get_or_from_slice_get nodes m w w g) at other in
      once_from_total node_cmp_total n w e less
]
  where
    le_cases : (i m : ℕ) → i ≤ m → (i ≡ m) ⊎ (i < m)
    le_cases i m l = grind arith

-- the value that a search finds is one of the class
first_found : (values : List Value) (i : ℕ) (v : Value) → first_value values i ≡ Some v → In v values × (v.class ≡ i)
first_found values i v e = let r = found_by (λ v. v.class == i) values v e in (r.0, eqb-true v.class i r.1)

none_found : (values : List Value) (i : ℕ) (c : Constant) → first_value values i ≡ None → ¬ In (record { class = i; constant = c }) values
none_found values i c e h =
    let f = none_passes (λ v. v.class == i) values (record { class = i; constant = c }) e h in
    false≢true (sym f ∙ eq-eqb i i refl)

module _ (ls : List Literal) (s : Solution) (y : Solves ls s) where
  abbrev values : List Value
  values = s.values.items

  abbrev table : List Node
  table = s.nodes.items

  -- ---- what a class is called

  called_by : (x : Node) (k : Constant) → HasValue ls x k → Called (solution ls) x (arg.Atom (constant_name k))
  called_by x (constant.Atom a) h = by_atom h
  called_by x (constant.Form form site index) h = by_form h

  -- the node with the number of a class is the least of the class
  least_at : (x n : Node) (i : ℕ) → ClassOf s x i → slice_get table i ≡ Some n → IsLeast (solution ls) x n
  least_at x n i c h =
      let own : ClassOf s n i = record { number = i; node = h; class = (y.least.each c.number i c.class).1 } in
      record {
        same = (y.same x n).1 (i, c, own);
        least = λ w e.
            let r = (y.same x w).0 e in
            let same : r.0 ≡ i = class_once ls s y x r.0 i r.1 c in
            let at : slice_get s.classes r.2.number ≡ Some i = subst (λ (k : ℕ). slice_get s.classes r.2.number ≡ Some k) same r.2.class in
            not_before table i r.2.number n w y.nodes.ascends h r.2.node ((y.least.each r.2.number i at).0);
      }

  free_of : (x : Node) (i : ℕ) → ClassOf s x i → first_value values i ≡ None → (k : Constant) → ¬ HasValue ls x k
  free_of x i c e k h =
      let r = class_of_value ls s y x k h in
      let same : r.0 ≡ i = class_once ls s y x r.0 i r.1 c in
      none_found values i k e (subst (λ (n : ℕ). In (record { class = n; constant = k }) values) same r.2)

  value_found : (x : Node) (i : ℕ) (v : Value) → ClassOf s x i → first_value values i ≡ Some v → HasValue ls x v.constant
  value_found x i v c e =
      let r = first_found values i v e in
      value_of_class ls s y x i v.constant c (subst (λ (n : ℕ). In (record { class = n; constant = v.constant }) values) r.1 r.0)

  pub called : (x : Node) (i : ℕ) (c : Arg) → ClassOf s x i → name_in values table i ≡ Some c → Called (solution ls) x c
  called x i c k e = go (first_value values i) refl (slice_get table i) refl e
    where
      go : (o : Option Value) → first_value values i ≡ o → (p : Option Node) → slice_get table i ≡ p → name_by o p ≡ Some c → Called (solution ls) x c
      go (Some v) f p g h =
          let is : arg.Atom (constant_name v.constant) ≡ c = same_Some (arg.Atom (constant_name v.constant)) c h in
          subst (λ (a : Arg). Called (solution ls) x a) is (called_by x v.constant (value_found x i v k f))
      go None f (Some n) g h =
          let is : arg.Node n ≡ c = same_Some (arg.Node n) c h in
          subst (λ (a : Arg). Called (solution ls) x a) is (by_node (free_of x i k f) (least_at x n i k g))
      go None f None g h = cc

  -- each class has a name
  has_name : (x : Node) (i : ℕ) → ClassOf s x i → (c : Arg) × (name_in values table i ≡ Some c)
  has_name x i k = elim (slice_get_cases table i).1 [
    | inl r ↦ go (first_value values i) r.0 r.2
    | inr r ↦
        let l = slice_get_within s.classes i i (y.least.each k.number i k.class).1 in
        let e = y.covers in
        absurd (omega arith)
  ]
    where
      go : (o : Option Value) (n : Node) → slice_get table i ≡ Some n → (c : Arg) × (name_by o (slice_get table i) ≡ Some c)
      go (Some v) n e = (arg.Atom (constant_name v.constant), refl)
      go None n e = (arg.Node n, ap (name_by None) e)

  named : ¬ Clash (solution ls) → (x : Node) (i : ℕ) (c : Arg) → ClassOf s x i → Called (solution ls) x c → name_in values table i ≡ Some c
  named sound x i c k h =
      let r = has_name x i k in
      let e = one_name (solution ls) (solution_of_classes ls) sound x r.0 c (called x i r.0 k r.1) h in
      r.1 ∙ ap (λ a. Some a) e

  -- ---- facts of arcs

  of_pair : (a : Name) (i j : ℕ) (f : Fact) → In (record { from = i; attribute = a; to = j }) s.arcs.items
      → In f (pair_facts a (name_in values table i) (name_in values table j)) → IsFact (solution ls) f
  of_pair a i j f h g =
      let r = (y.arcs i a j).0 h in
      let p = pair_from a (name_in values table i) (name_in values table j) f g in
      subst (λ (e : Fact). IsFact (solution ls) e) (sym p.is) (of_arc r.4 (called r.0 i p.source r.2 p.called_source) (called r.1 j p.target r.3 p.called_target))

  of_membership : (m i : ℕ) (f : Fact) → In (record { item = m; set = i }) s.members.items
      → In f (pair_facts (codes "in_set") (name_in values table m) (name_in values table i)) → IsFact (solution ls) f
  of_membership m i f h g =
      let r = (y.members m i).0 h in
      let p = pair_from (codes "in_set") (name_in values table m) (name_in values table i) f g in
      subst (λ (e : Fact). IsFact (solution ls) e) (sym p.is) (of_member r.4 (called r.1 i p.target r.3 p.called_target) (called r.0 m p.source r.2 p.called_source))

  -- ---- facts of forms

  of_constant : (x t : Node) (c : Arg) (k : Constant) (f : Fact) → HasArc ls x pred t → Called (solution ls) x c → HasValue ls t k → In f (constant_facts c k) → IsFact (solution ls) f
  of_constant x t c (constant.Atom a) f h cx v g = In-nil g
  of_constant x t c (constant.Form form site index) f h cx v g =
      elim (In-append_cases (function_facts (codes "arg") c 0 form.inner) (function_facts (codes "nonarg") c 0 form.outer) g) [
        | inl l ↦
            let r = function_from (codes "arg") c 0 form.inner f l in
            let z : 0 + r.0 ≡ r.0 = omega arith in
            subst (λ (e : Fact). IsFact (solution ls) e) (sym (r.3 ∙ ap (λ n. argument c (suc n) r.1) z)) (of_inner r.0 has cx r.2)
        | inr l ↦
            let r = function_from (codes "nonarg") c 0 form.outer f l in
            let z : 0 + r.0 ≡ r.0 = omega arith in
            subst (λ (e : Fact). IsFact (solution ls) e) (sym (r.3 ∙ ap (λ n. nonargument c (suc n) r.1) z)) (of_outer r.0 has cx r.2)
      ]
    where
      has : HasForm (solution ls) x form
      has = record { at = t; by_pred = h; site = site; index = index; is_value = v }

  of_values : (x t : Node) (i j : ℕ) (o : Option Arg) (f : Fact) → name_in values table i ≡ o → ClassOf s x i → ClassOf s t j → HasArc ls x pred t → In f (values_facts o values j) → IsFact (solution ls) f
  of_values x t i j None f e k l h g = In-nil g
  of_values x t i j (Some c) f e k l h g =
      let r = In_from_flat_map (value_facts c j) values g in
      let p = tested (r.0.class == j) (constant_facts c r.0.constant) f r.2 in
      let v : In (record { class = j; constant = r.0.constant }) values = subst (λ (n : ℕ). In (record { class = n; constant = r.0.constant }) values) (eqb-true r.0.class j p.0) r.1 in
      of_constant x t c r.0.constant f h (called x i c k e) (value_of_class ls s y t j r.0.constant l v) p.1

  of_pred : (a : Name) (i j : ℕ) (f : Fact) → In (record { from = i; attribute = a; to = j }) s.arcs.items
      → In f (pred_facts values table (record { from = i; attribute = a; to = j })) → IsFact (solution ls) f
  of_pred a i j f h g =
      let p = tested (same_name a pred) (values_facts (name_in values table i) values j) f g in
      let e : a ≡ pred = same_text a pred (sym p.0) in
      let r = (y.arcs i a j).0 h in
      of_values r.0 r.1 i j (name_in values table i) f refl r.2 r.3 (subst (λ (n : Name). HasArc ls r.0 n r.1) e r.4) p.1

  facts_forth : (f : Fact) → In f (numbered_facts values table s.arcs.items s.members.items) → IsFact (solution ls) f
  facts_forth f h = elim (In-append_cases (flat_map (arc_facts values table) s.arcs.items) (flat_map (member_facts values table) s.members.items) h) [
    | inl l ↦
        let r = In_from_flat_map (arc_facts values table) s.arcs.items l in
        elim (In-append_cases (pair_facts r.0.attribute (name_in values table r.0.from) (name_in values table r.0.to)) (pred_facts values table r.0) r.2) [
          | inl p ↦ of_pair r.0.attribute r.0.from r.0.to f r.1 p
          | inr p ↦ of_pred r.0.attribute r.0.from r.0.to f r.1 p
        ]
    | inr l ↦ let r = In_from_flat_map (member_facts values table) s.members.items l in of_membership r.0.item r.0.set f r.1 r.2
  ]

  -- ---- and back

  abbrev Numbered : Fact → Type 0
  Numbered f = In f (numbered_facts values table s.arcs.items s.members.items)

  of_arc_facts : (arc : Arc) (f : Fact) → In arc s.arcs.items → In f (arc_facts values table arc) → Numbered f
  of_arc_facts arc f h g = In-append_left (flat_map (member_facts values table) s.members.items) (In-flat_map (arc_facts values table) h g)

  module _ (sound : ¬ Clash (solution ls)) where
    arc_back : (x t : Node) (a : Name) (c u : Arg) → HasArc ls x a t → Called (solution ls) x c → Called (solution ls) t u → Numbered (has_attribute a c u)
    arc_back x t a c u h cx ct =
        let r = class_of_arc ls s y x a t h in
        let arc : Arc = record { from = r.0; attribute = a; to = r.1 } in
        let p = pair_at a (name_in values table r.0) (name_in values table r.1) c u (named sound x r.0 c r.2 cx) (named sound t r.1 u r.3 ct) in
        of_arc_facts arc (has_attribute a c u) r.4 (In-append_left (pred_facts values table arc) p)

    member_back : (x m : Node) (c u : Arg) → HasMember ls x m → Called (solution ls) x c → Called (solution ls) m u → Numbered (in_set u c)
    member_back x m c u h cx cm =
        let r = class_of_member ls s y x m h in
        let p = pair_at (codes "in_set") (name_in values table r.1) (name_in values table r.0) u c (named sound m r.1 u r.3 cm) (named sound x r.0 c r.2 cx) in
        In-append_right (flat_map (arc_facts values table) s.arcs.items) (In-flat_map (member_facts values table) r.4 p)

    form_back : (x : Node) (form : Form) (c : Arg) (f : Fact) → HasForm (solution ls) x form → Called (solution ls) x c
        → In f (function_facts (codes "arg") c 0 form.inner ++ function_facts (codes "nonarg") c 0 form.outer) → Numbered f
    form_back x form c f h cx g =
        let r = form_numbers ls s y x form h in
        let arc : Arc = record { from = r.0; attribute = pred; to = r.1 } in
        let held : Value = record { class = r.1; constant = constant.Form form h.site h.index } in
        let here : In f (value_facts c r.1 held) = passed (r.1 == r.1) (constant_facts c held.constant) f (eq-eqb r.1 r.1 refl) g in
        let all : In f (values_facts (Some c) values r.1) = In-flat_map (value_facts c r.1) r.4 here in
        let own : In f (values_facts (name_in values table r.0) values r.1) = subst (λ (o : Option Arg). In f (values_facts o values r.1)) (sym (named sound x r.0 c r.2 cx)) all in
        let p : In f (pred_facts values table arc) = passed (same_name pred pred) (values_facts (name_in values table r.0) values r.1) f (nat_list_eq_equiv.refl pred) own in
        of_arc_facts arc f r.3 (In-append_right (pair_facts pred (name_in values table r.0) (name_in values table r.1)) p)

    facts_back : (f : Fact) → IsFact (solution ls) f → Numbered f
    facts_back f (of_arc {x} {t} {a} {c} {u} h cx ct) = arc_back x t a c u h cx ct
    facts_back f (of_member {x} {m} {c} {u} h cx cm) = member_back x m c u h cx cm
    facts_back f (of_inner {x} {c} {form} k {g} h cx e) =
        let z : k ≡ 0 + k = omega arith in
        form_back x form c (argument c (suc k) g) h cx (In-append_left (function_facts (codes "nonarg") c 0 form.outer) (function_at (codes "arg") c 0 form.inner k k g e z))
    facts_back f (of_outer {x} {c} {form} k {g} h cx e) =
        let z : k ≡ 0 + k = omega arith in
        form_back x form c (nonargument c (suc k) g) h cx (In-append_right (function_facts (codes "arg") c 0 form.inner) (function_at (codes "nonarg") c 0 form.outer k k g e z))

    -- the facts by numbers are those of the solution
    pub facts_by_numbers : (facts : List Fact) → Lists fact_cmp (λ f. In f (numbered_facts s.values.items s.nodes.items s.arcs.items s.members.items)) facts → Lists fact_cmp (IsFact (solution ls)) facts
    facts_by_numbers facts l = record {
      ascends = l.ascends;
      exact = λ f. ((λ h. facts_forth f ((l.exact f).0 h)), (λ h. (l.exact f).1 (facts_back f h)));
    }
