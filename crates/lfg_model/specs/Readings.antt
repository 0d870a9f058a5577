-- The readings of a sentence: which derivations are assigned, and the pair of facts of each.
use Rattle.std.specs.Prelude.{◌≡◌, ℕ, suc, List, [], ◌∷◌, Some, slice_get, codes, decimal}
use Rattle.std.specs.declared.cmp.Ordering.TheVariants.{Less}
use Rattle.lfg_terms.specs.Order.{node_cmp, fact_cmp}
use Rattle.lfg_terms.specs.declared.node.Node.{Node}
use Rattle.lfg_terms.specs.declared.node.Arg as arg
use Rattle.lfg_terms.specs.declared.node.Arg.{Arg}
use Rattle.lfg_terms.specs.declared.node.Fact.{Fact}
use Rattle.lfg_terms.specs.declared.grammar.Form.{Form}
use Rattle.lfg_terms.specs.declared.grammar.Grammar.{Grammar}
use Rattle.lfg_terms.specs.declared.literal.Site.{Site}
use Rattle.lfg_terms.specs.declared.literal.Literal.{Literal}
use Rattle.lfg_terms.specs.declared.tree.TokenForms.{TokenForms}
use Rattle.lfg_model.specs.declared.constant.Constant.{Constant}
use Rattle.lfg_model.specs.declared.constant.Constant.TheVariants as constant
use Rattle.lfg_model.specs.declared.pair.Pair.{Pair}
use Rattle.lfg_model.specs.Lists.{In, Lists}
use Rattle.lfg_model.specs.Terms.{Name, Tree}
use Rattle.lfg_model.specs.Derive.{Whole}
use Rattle.lfg_model.specs.Trees.{literals, tree_facts}
use Rattle.lfg_model.specs.Literals.{nodes, checks}
use Rattle.lfg_model.specs.Solve.{Solution, solution, Clash, HasForm, IsWellFormed}
use Rattle.lfg_model.specs.PairTexts.{pair_cmp}

-- The solution of the equations of a derivation of a sentence.
abbrev pub solution_of : Grammar → Tree → Solution
solution_of g d = solution (literals g d 0)

-- The grammar assigns the derivation to the sentence: it derives the whole sentence, and its
-- solution meets all conditions (Kaplan and Bresnan 1982).
pub record Assigned (g : Grammar) (s : List TokenForms) (d : Tree) : Type 0 where
  pub whole : Whole g s d
  pub well_formed : IsWellFormed (solution_of g d) g.governable (checks (literals g d 0))

-- the facts of an f-structure, by what a class is called
abbrev pub has_attribute : Name → Arg → Arg → Fact
has_attribute a c t = record { rel = a; args = c ∷ t ∷ [] }

abbrev pub in_set : Arg → Arg → Fact
in_set m c = record { rel = codes "in_set"; args = m ∷ c ∷ [] }

-- the k-th function inside the angle brackets, and behind them, counted from 1
abbrev pub argument : Arg → ℕ → Name → Fact
argument c k g = record { rel = codes "arg"; args = c ∷ arg.Atom (decimal k) ∷ arg.Atom g ∷ [] }

abbrev pub nonargument : Arg → ℕ → Name → Fact
nonargument c k g = record { rel = codes "nonarg"; args = c ∷ arg.Atom (decimal k) ∷ arg.Atom g ∷ [] }

module _ (y : Solution) where
  -- z is the least node of the class of x
  pub record IsLeast (x z : Node) : Type 0 where
    pub same : y.same x z
    pub least : (w : Node) → y.same x w → ¬ (node_cmp w z ≡ Less)

  -- What a class is called: one with an atom or a form goes by that name, any other by its least
  -- node (this project's own).
  pub data Called (x : Node) : Arg → Type 0 where
    by_atom : {a : Name} → y.value x (constant.Atom a) → Called x (arg.Atom a)
    by_form : {form : Form} {site : Site} {index : ℕ} → y.value x (constant.Form form site index) → Called x (arg.Atom form.name)
    by_node : {z : Node} → ((c : Constant) → ¬ y.value x c) → IsLeast x z → Called x (arg.Node z)

  -- The facts of an f-structure: its arcs, its sets' members, and the functions that its forms name
  -- (this project's own).
  pub data IsFact : Fact → Type 0 where
    of_arc : {x t : Node} {a : Name} {c u : Arg} → y.arc x a t → Called x c → Called t u → IsFact (has_attribute a c u)
    of_member : {x m : Node} {c u : Arg} → y.member x m → Called x c → Called m u → IsFact (in_set u c)
    of_inner : {x : Node} {c : Arg} {form : Form} (k : ℕ) {g : Name} → HasForm y x form → Called x c → slice_get form.inner k ≡ Some g
        → IsFact (argument c (suc k) g)
    of_outer : {x : Node} {c : Arg} {form : Form} (k : ℕ) {g : Name} → HasForm y x form → Called x c → slice_get form.outer k ≡ Some g
        → IsFact (nonargument c (suc k) g)

-- Law: without a clash the class of each node has exactly one name.
abbrev pub ClassesHaveOneName : Type 0
ClassesHaveOneName =
    (ls : List Literal) → ¬ Clash (solution ls) → (x : Node) → In x (nodes ls)
    → (c : Arg) × Called (solution ls) x c × ((d : Arg) → Called (solution ls) x d → d ≡ c)

-- The pair is that of a derivation: the facts of its tree and of its f-structure, each as a set.
pub record IsPairOf (g : Grammar) (s : List TokenForms) (d : Tree) (p : Pair) : Type 0 where
  pub tree : Lists fact_cmp (λ f. In f (tree_facts s d 0)) p.tree
  pub facts : Lists fact_cmp (IsFact (solution_of g d)) p.facts

-- the pair is that of some derivation that the grammar assigns to the sentence
pub record IsReading (g : Grammar) (s : List TokenForms) (p : Pair) : Type 0 where
  pub derivation : Tree
  pub assigned : Assigned g s derivation
  pub pair : IsPairOf g s derivation p

-- The readings of a sentence: all pairs of assigned derivations, each once, in the order of their
-- texts.
abbrev pub IsReadings : Grammar → List TokenForms → List Pair → Type 0
IsReadings g s = Lists pair_cmp (IsReading g s)

-- Law: the readings of a sentence are one list.
abbrev pub ReadingsAreOne : Type 0
ReadingsAreOne = (g : Grammar) (s : List TokenForms) (ps qs : List Pair) → IsReadings g s ps → IsReadings g s qs → ps ≡ qs
