-- The literals of a derivation name nodes of edges alone, and so no fact of its f-structure has a new node.
use Rattle.std.proofs.Common.{◌≡◌, ℕ, zero, suc, ◌+◌, List, [], ◌∷◌, ◌++◌, get_or, sym, subst, inl, inr}
use Rattle.std.specs.Prelude.{slice_get, All, codes, decimal}
use denote.Hole.Carrier.{out}
use Rattle.lfg_terms.specs.FactTexts.{IsListedArg, IsListedFact}
use Rattle.std.specs.List.{flat_map}
use Rattle.lfg_terms.specs.declared.node.Edge.{Edge}
use Rattle.lfg_terms.specs.declared.node.Node as node
use Rattle.lfg_terms.specs.declared.node.Node.{Node, out-Node}
use Rattle.lfg_terms.specs.declared.node.Arg as arg
use Rattle.lfg_terms.specs.declared.node.Arg.{Arg, out-Arg}
use Rattle.lfg_terms.specs.declared.node.Fact.{Fact}
use Rattle.lfg_terms.specs.declared.grammar.Val.{Val}
use Rattle.lfg_terms.specs.declared.grammar.Val.TheVariants as val
use Rattle.lfg_terms.specs.declared.grammar.Item.{Item}
use Rattle.lfg_terms.specs.declared.grammar.Grammar.{Grammar}
use Rattle.lfg_terms.specs.declared.literal.Site.TheVariants as site
use Rattle.lfg_terms.specs.declared.literal.Literal.{Literal}
use Rattle.lfg_model.specs.Terms.{Name, Path, Paths, Schema, define, constrain, exists, member, mark, either, maybe, call, Annotation, no_schema, and_schema, Branches, no_branch, or_branch, Tree, leaf, inner, Parts, no_part, empty, daughter}
use Rattle.lfg_model.specs.Places.{path_places, schema_places, places, schema_forms, form_count}
use Rattle.lfg_model.specs.Resolve.{Instance, edge_at, string_taken, target_of, equation, own, others, resolved, schema_literals, branch_literals}
use Rattle.lfg_model.specs.Lists.{In}
use Rattle.lfg_model.specs.Literals.{prefixes, with_prefixes, named, target_starts, starts, checks_of, nodes}
use Rattle.lfg_model.specs.Solve.{solution}
use Rattle.lfg_model.specs.Readings.{solution_of, has_attribute, Called, by_atom, by_form, by_node, IsFact, of_arc, of_member, of_inner, of_outer}
use Rattle.lfg_model.proofs.Classing.{Equal-ends}
use Rattle.lfg_model.proofs.LiteralLaws.{literals_between}
use Rattle.lfg_model.specs.Derive.{edge, rule_of, item_at}
use Rattle.lfg_model.specs.Trees.{width, parts_width, edge_of, items_of, item_annotation, entry_annotation, literals, parts_literals}
use Rattle.lfg_model.proofs.ListLaws.{In-nil, In-at, In-cons_cases, In-append_cases, In_from_map, In_from_flat_map}

-- P is true of each element
pub record EachOf {X : Type 0} (P : X → Type 0) (xs : List X) : Type 0 where
  pub each : (x : X) → In x xs → P x

-- a path leads to the node from an edge: it is no new node
pub record IsEdgeNode (n : Node) : Type 0 where
  pub edge : Edge
  pub path : Path
  pub is : n ≡ node.At edge path

abbrev pub AreEdgeNodes : List Node → Type 0
AreEdgeNodes nodes = EachOf IsEdgeNode nodes

module _ {X : Type 0} (P : X → Type 0) where
  EachOf-none : EachOf P []
  EachOf-none = record { each = λ x i. In-nil i }

  EachOf-cons : (x : X) (xs : List X) → P x → EachOf P xs → EachOf P (x ∷ xs)
  EachOf-cons x xs p h = record { each = λ z i. elim (In-cons_cases i) [ inl e ↦ subst P (sym e) p | inr l ↦ h.each z l ] }

  EachOf-append : (xs ys : List X) → EachOf P xs → EachOf P ys → EachOf P (xs ++ ys)
  EachOf-append xs ys h g = record { each = λ z i. elim (In-append_cases xs ys i) [ inl l ↦ h.each z l | inr l ↦ g.each z l ] }

at_edge : (e : Edge) (p : Path) → IsEdgeNode (node.At e p)
at_edge e p = record { edge = e; path = p; is = λ i. node.At e p }

prefixes_at : (e : Edge) (p : Path) → AreEdgeNodes (with_prefixes (node.At e p))
prefixes_at e p = record {
  each = λ n i. let r = In_from_map (λ q. node.At e q) (prefixes p) i in record { edge = e; path = r.0; is = sym r.2 };
}

-- the nodes that the literal has are nodes of edges
HasEdgeNodes : Literal → Type 0
HasEdgeNodes l = AreEdgeNodes (flat_map with_prefixes (named l) ++ flat_map starts (checks_of l))

-- one node and two nodes with all nodes on the way to them
one_at : (e : Edge) (p : Path) → AreEdgeNodes ((with_prefixes (node.At e p) ++ []) ++ [])
one_at e p = EachOf-append IsEdgeNode _ _ (EachOf-append IsEdgeNode _ _ (prefixes_at e p) (EachOf-none IsEdgeNode)) (EachOf-none IsEdgeNode)

two_at : (e f : Edge) (p q : Path) → AreEdgeNodes ((with_prefixes (node.At e p) ++ (with_prefixes (node.At f q) ++ [])) ++ [])
two_at e f p q =
    EachOf-append IsEdgeNode _ _ (EachOf-append IsEdgeNode _ _ (prefixes_at e p) (EachOf-append IsEdgeNode _ _ (prefixes_at f q) (EachOf-none IsEdgeNode))) (EachOf-none IsEdgeNode)

-- a start of a walk, before others
start_at : (e : Edge) (ns : List Node) → AreEdgeNodes ns → AreEdgeNodes ((node.At e [] ∷ ns) ++ [])
start_at e ns h = EachOf-append IsEdgeNode _ _ (EachOf-cons IsEdgeNode (node.At e []) ns (at_edge e []) h) (EachOf-none IsEdgeNode)

module _ (it : Instance) where
  target_edges : (right : Val Paths) → AreEdgeNodes (target_starts (target_of it right))
  target_edges (val.Des d) = EachOf-cons IsEdgeNode _ [] (at_edge (edge_at it d.arrow) []) (EachOf-none IsEdgeNode)
  target_edges (val.Atom a) = EachOf-none IsEdgeNode
  target_edges (val.Form f) = EachOf-none IsEdgeNode

  equation_edges : (e : Edge) (p : Path) (right : Val Paths) (picks : List ℕ) (index : ℕ) → HasEdgeNodes (equation it (node.At e p) right picks index)
  unfolding HasEdgeNodes
  equation_edges e p (val.Des d) picks index = two_at e (edge_at it d.arrow) p (string_taken d.path picks)
  equation_edges e p (val.Atom a) picks index = one_at e p
  equation_edges e p (val.Form f) picks index = one_at e p

  alone : (l : Literal) → HasEdgeNodes l → EachOf HasEdgeNodes (l ∷ [])
  alone l h = EachOf-cons HasEdgeNodes l [] h (EachOf-none HasEdgeNodes)

  mutual
    unfolding HasEdgeNodes

    resolved_edges : (a : Annotation) (picks : List ℕ) (index : ℕ) → EachOf HasEdgeNodes (resolved it a picks index)
    resolved_edges no_schema picks index = EachOf-none HasEdgeNodes
    resolved_edges (and_schema s rest) picks index =
        EachOf-append HasEdgeNodes _ _ (schema_edges s (own (schema_places s) picks) index) (resolved_edges rest (others (schema_places s) picks) (index + schema_forms s))

    schema_edges : (s : Schema) (picks : List ℕ) (index : ℕ) → EachOf HasEdgeNodes (schema_literals it s picks index)
    schema_edges (define left right) picks index =
        alone _ (equation_edges (edge_at it left.arrow) (string_taken left.path (own (path_places left.path) picks)) right (others (path_places left.path) picks) index)
    schema_edges (constrain negated left right) picks index = alone _ (start_at (edge_at it left.arrow) _ (target_edges right))
    schema_edges (exists negated left) picks index = alone _ (start_at (edge_at it left.arrow) [] (EachOf-none IsEdgeNode))
    schema_edges (member item set) picks index =
        alone _ (two_at (edge_at it item.arrow) (edge_at it set.arrow) (string_taken item.path (own (path_places item.path) picks)) (string_taken set.path (others (path_places item.path) picks)))
    schema_edges (mark name) picks index = alone _ (EachOf-none IsEdgeNode)
    schema_edges (either branches) [] index = EachOf-none HasEdgeNodes
    schema_edges (either branches) (k ∷ picks) index = branch_edges branches k picks index
    schema_edges (maybe inside) [] index = EachOf-none HasEdgeNodes
    schema_edges (maybe inside) (zero ∷ picks) index = resolved_edges inside picks index
    schema_edges (maybe inside) (suc k ∷ picks) index = EachOf-none HasEdgeNodes
    schema_edges (call name args) picks index = EachOf-none HasEdgeNodes

    branch_edges : (branches : Branches) (k : ℕ) (picks : List ℕ) (index : ℕ) → EachOf HasEdgeNodes (branch_literals it branches k picks index)
    branch_edges no_branch k picks index = EachOf-none HasEdgeNodes
    branch_edges (or_branch b bs) zero picks index = resolved_edges b (own (places b) picks) index
    branch_edges (or_branch b bs) (suc k) picks index = branch_edges bs k (others (places b) picks) (index + form_count b)

module _ (g : Grammar) where
  mutual
    tree_edges : (d : Tree) (from : ℕ) → EachOf HasEdgeNodes (literals g d from)
    tree_edges (leaf cat entry picks) from =
        let word = edge cat from (from + 1) in
        resolved_edges (record { up = word; down = word; site = site.Entry word entry }) (entry_annotation (slice_get g.lexicon entry)) picks 0
    tree_edges (inner cat parts) from = parts_edges (items_of (rule_of g cat)) (edge cat from (from + parts_width parts)) parts from

    parts_edges : (items : List Item) (mother : Edge) (parts : Parts) (at : ℕ) → EachOf HasEdgeNodes (parts_literals g items mother parts at)
    parts_edges items mother no_part at = EachOf-none HasEdgeNodes
    parts_edges items mother (empty occ picks rest) at =
        EachOf-append HasEdgeNodes _ _ (resolved_edges (record { up = mother; down = mother; site = site.Item mother occ at at }) (item_annotation (item_at items occ)) picks 0)
        (parts_edges items mother rest at)
    parts_edges items mother (daughter occ picks below rest) at =
        let to = at + width below in
        EachOf-append HasEdgeNodes _ _ (resolved_edges (record { up = mother; down = edge_of below at; site = site.Item mother occ at to }) (item_annotation (item_at items occ)) picks 0)
        (EachOf-append HasEdgeNodes _ _ (tree_edges below at) (parts_edges items mother rest to))

  -- the nodes of a derivation's literals are nodes of edges
  pub derivation_edges : (d : Tree) (from : ℕ) → AreEdgeNodes (nodes (literals g d from))
  unfolding HasEdgeNodes
  derivation_edges d from = record {
    each = λ n i.
        let l = In_from_flat_map (λ l. flat_map with_prefixes (named l) ++ flat_map starts (checks_of l)) (literals g d from) i in
        ((tree_edges d from).each l.0 l.1).each n l.2;
  }

-- ---- facts of f-structures

atom_listed : (a : Name) → IsListedArg [] (arg.Atom a)
unfolding out-Arg out
atom_listed a = tt

at_listed : (e : Edge) (p : Path) → IsListedArg [] (arg.Node (node.At e p))
unfolding out-Arg out-Node out
at_listed e p = tt

edge_node_listed : (n : Node) → IsEdgeNode n → IsListedArg [] (arg.Node n)
edge_node_listed n h = subst (λ (m : Node). IsListedArg [] (arg.Node m)) (sym h.is) (at_listed h.edge h.path)

all_from_in : {X : Type 0} (P : X → Type 0) (xs : List X) → ((x : X) → In x xs → P x) → All P xs
all_from_in P xs h = λ k d l. h (get_or xs k d) (In-at xs k d l)

two_listed : (relation : Name) (c u : Arg) → IsListedArg [] c → IsListedArg [] u → IsListedFact [] (has_attribute relation c u)
two_listed relation c u h g =
    all_from_in (IsListedArg []) (c ∷ u ∷ []) (λ x i. elim (In-cons_cases i) [
      | inl e ↦ subst (IsListedArg []) (sym e) h
      | inr j ↦ elim (In-cons_cases j) [ inl e ↦ subst (IsListedArg []) (sym e) g | inr k ↦ In-nil k ]
    ])

three_listed : (relation : Name) (c u v : Arg) → IsListedArg [] c → IsListedArg [] u → IsListedArg [] v → IsListedFact [] (record { rel = relation; args = c ∷ u ∷ v ∷ [] })
three_listed relation c u v h g f =
    all_from_in (IsListedArg []) (c ∷ u ∷ v ∷ []) (λ x i. elim (In-cons_cases i) [
      | inl e ↦ subst (IsListedArg []) (sym e) h
      | inr j ↦ elim (In-cons_cases j) [
        | inl e ↦ subst (IsListedArg []) (sym e) g
        | inr l ↦ elim (In-cons_cases l) [ inl e ↦ subst (IsListedArg []) (sym e) f | inr m ↦ In-nil m ]
      ]
    ])

module _ (ls : List Literal) (edges : AreEdgeNodes (nodes ls)) where
  called_listed : (x : Node) (c : Arg) → Called (solution ls) x c → IsListedArg [] c
  called_listed x c (by_atom v) = atom_listed _
  called_listed x c (by_form v) = atom_listed _
  called_listed x c (by_node {z} free least) = edge_node_listed z (edges.each z (Equal-ends (literals_between ls) least.same).1)

  fact_listed : (f : Fact) → IsFact (solution ls) f → IsListedFact [] f
  fact_listed f (of_arc {a = n} a c u) = two_listed n _ _ (called_listed _ _ c) (called_listed _ _ u)
  fact_listed f (of_member m c u) = two_listed (codes "in_set") _ _ (called_listed _ _ u) (called_listed _ _ c)
  fact_listed f (of_inner k {g} h c s) = three_listed (codes "arg") _ _ _ (called_listed _ _ c) (atom_listed (decimal (suc k))) (atom_listed g)
  fact_listed f (of_outer k {g} h c s) = three_listed (codes "nonarg") _ _ _ (called_listed _ _ c) (atom_listed (decimal (suc k))) (atom_listed g)

-- the facts of a derivation's f-structure have no new node
pub derivation_plain : (g : Grammar) (d : Tree) (f : Fact) → IsFact (solution_of g d) f → IsListedFact [] f
derivation_plain g d f h = fact_listed (literals g d 0) (derivation_edges g d 0) f h
