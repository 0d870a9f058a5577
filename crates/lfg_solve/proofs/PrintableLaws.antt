-- Where all nodes are nodes of edges, the facts can be written without a table.
use Rattle.std.proofs.Common.{◌≡◌, ℕ, Option, Some, None, List, [], ◌∷◌, refl, sym, subst, inl, inr}
use Rattle.std.specs.Prelude.{◌==◌, slice_get, codes, decimal}
use Rattle.std.specs.List.{flat_map}
use Rattle.std.proofs.lemmas.Option.{same_Some}
use denote.Hole.Carrier.{out}
use Rattle.lfg_terms.specs.Order.{fact_cmp}
use Rattle.lfg_terms.specs.FactTexts.{IsListedArg}
use Rattle.lfg_terms.specs.declared.node.Edge.{Edge}
use Rattle.lfg_terms.specs.declared.node.Node as node
use Rattle.lfg_terms.specs.declared.node.Node.{Node, out-Node}
use Rattle.lfg_terms.specs.declared.node.Arg as arg
use Rattle.lfg_terms.specs.declared.node.Arg.{Arg, out-Arg}
use Rattle.lfg_terms.specs.declared.node.Fact.{Fact}
use Rattle.lfg_model.specs.declared.constant.Constant.{Constant}
use Rattle.lfg_model.specs.declared.constant.Constant.TheVariants as constant
use Rattle.lfg_model.specs.Lists.{In, Lists}
use Rattle.lfg_model.specs.Terms.{Name, Path, same_name}
use Rattle.lfg_model.specs.Solve.{pred}
use Rattle.lfg_model.specs.Readings.{has_attribute}
use Rattle.lfg_model.proofs.ListLaws.{In-nil, In-cons_cases, In-append_cases, In_from_flat_map}
use Rattle.lfg_solve.specs.declared.classes.Arc.{Arc}
use Rattle.lfg_solve.specs.declared.solution.Value.{Value}
use Rattle.lfg_solve.specs.declared.solution.Membership.{Membership}
use Rattle.lfg_solve.specs.NumberedFacts.{constant_name, first_value, name_by, name_in, pair_facts, function_fact, function_facts, constant_facts, value_facts, values_facts, pred_facts, arc_facts, member_facts, numbered_facts}
use Rattle.lfg_solve.specs.Printable.{IsPrintable, ArePrintable, IsEdgeNode, AreEdgeNodes}
use Rattle.lfg_solve.proofs.FactLists.{function_from, pair_from, tested}
use Rattle.lfg_solve.proofs.Solving.{All_from_In}
use Rattle.lfg_solve.proofs.Tables.{get_In}

atom_listed : (a : Name) → IsListedArg [] (arg.Atom a)
unfolding out-Arg out
atom_listed a = tt

at_listed : (e : Edge) (p : Path) → IsListedArg [] (arg.Node (node.At e p))
unfolding out-Arg out-Node out
at_listed e p = tt

edge_node_listed : (n : Node) → IsEdgeNode n → IsListedArg [] (arg.Node n)
edge_node_listed n h = subst (λ (m : Node). IsListedArg [] (arg.Node m)) (sym h.is) (at_listed h.edge h.path)

pair_printable : (relation : Name) (c u : Arg) → IsListedArg [] c → IsListedArg [] u → IsPrintable (has_attribute relation c u)
pair_printable relation c u h g =
    All_from_In (IsListedArg []) (c ∷ u ∷ []) (λ x i. elim (In-cons_cases i) [
      | inl e ↦ subst (IsListedArg []) (sym e) h
      | inr j ↦ elim (In-cons_cases j) [ inl e ↦ subst (IsListedArg []) (sym e) g | inr k ↦ In-nil k ]
    ])

function_printable : (relation : Name) (c : Arg) (k : ℕ) (g : Name) → IsListedArg [] c → IsPrintable (function_fact relation c k g)
function_printable relation c k g h =
    All_from_In (IsListedArg []) (function_fact relation c k g).args (λ x i. elim (In-cons_cases i) [
      | inl e ↦ subst (IsListedArg []) (sym e) h
      | inr j ↦ elim (In-cons_cases j) [
        | inl e ↦ subst (IsListedArg []) (sym e) (atom_listed (decimal k))
        | inr l ↦ elim (In-cons_cases l) [ inl e ↦ subst (IsListedArg []) (sym e) (atom_listed g) | inr m ↦ In-nil m ]
      ]
    ])

module _ (values : List Value) (nodes : List Node) (edges : AreEdgeNodes nodes) where
  name_listed : (i : ℕ) (c : Arg) → name_in values nodes i ≡ Some c → IsListedArg [] c
  name_listed i c e = go (first_value values i) (slice_get nodes i) refl e
    where
      go : (o : Option Value) (p : Option Node) → slice_get nodes i ≡ p → name_by o p ≡ Some c → IsListedArg [] c
      go (Some v) p g h = subst (IsListedArg []) (same_Some (arg.Atom (constant_name v.constant)) c h) (atom_listed (constant_name v.constant))
      go None (Some n) g h = subst (IsListedArg []) (same_Some (arg.Node n) c h) (edge_node_listed n (edges.each n (get_In nodes i n g)))
      go None None g h = cc

  of_pair : (relation : Name) (i j : ℕ) (f : Fact) → In f (pair_facts relation (name_in values nodes i) (name_in values nodes j)) → IsPrintable f
  of_pair relation i j f h =
      let p = pair_from relation (name_in values nodes i) (name_in values nodes j) f h in
      subst IsPrintable (sym p.is) (pair_printable relation p.source p.target (name_listed i p.source p.called_source) (name_listed j p.target p.called_target))

  of_functions : (relation : Name) (c : Arg) (gs : List Name) (f : Fact) → IsListedArg [] c → In f (function_facts relation c 0 gs) → IsPrintable f
  of_functions relation c gs f h i = let r = function_from relation c 0 gs f i in subst IsPrintable (sym r.3) (function_printable relation c _ r.1 h)

  of_constant : (c : Arg) (k : Constant) (f : Fact) → IsListedArg [] c → In f (constant_facts c k) → IsPrintable f
  of_constant c (constant.Atom a) f h i = In-nil i
  of_constant c (constant.Form form site index) f h i =
      elim (In-append_cases (function_facts (codes "arg") c 0 form.inner) (function_facts (codes "nonarg") c 0 form.outer) i) [
        | inl l ↦ of_functions (codes "arg") c form.inner f h l
        | inr l ↦ of_functions (codes "nonarg") c form.outer f h l
      ]

  of_values : (i j : ℕ) (o : Option Arg) (f : Fact) → name_in values nodes i ≡ o → In f (values_facts o values j) → IsPrintable f
  of_values i j None f e h = In-nil h
  of_values i j (Some c) f e h =
      let r = In_from_flat_map (value_facts c j) values h in
      of_constant c r.0.constant f (name_listed i c e) (tested (r.0.class == j) (constant_facts c r.0.constant) f r.2).1

  of_arc : (arc : Arc) (f : Fact) → In f (arc_facts values nodes arc) → IsPrintable f
  of_arc arc f h = elim (In-append_cases (pair_facts arc.attribute (name_in values nodes arc.from) (name_in values nodes arc.to)) (pred_facts values nodes arc) h) [
    | inl l ↦ of_pair arc.attribute arc.from arc.to f l
    | inr l ↦ of_values arc.from arc.to (name_in values nodes arc.from) f refl (tested (same_name arc.attribute pred) (values_facts (name_in values nodes arc.from) values arc.to) f l).1
  ]

  numbered_printable : (arcs : List Arc) (members : List Membership) (f : Fact) → In f (numbered_facts values nodes arcs members) → IsPrintable f
  numbered_printable arcs members f h = elim (In-append_cases (flat_map (arc_facts values nodes) arcs) (flat_map (member_facts values nodes) members) h) [
    | inl l ↦ let r = In_from_flat_map (arc_facts values nodes) arcs l in of_arc r.0 f r.2
    | inr l ↦ let r = In_from_flat_map (member_facts values nodes) members l in of_pair (codes "in_set") r.0.item r.0.set f r.2
  ]

  pub facts_printable : (arcs : List Arc) (members : List Membership) (facts : List Fact) → Lists fact_cmp (λ f. In f (numbered_facts values nodes arcs members)) facts → ArePrintable facts
  facts_printable arcs members facts l = All_from_In IsPrintable facts (λ f h. numbered_printable arcs members f ((l.exact f).0 h))
