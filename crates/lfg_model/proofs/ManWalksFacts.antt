-- The solution of a small sentence, and its facts.
use Rattle.std.proofs.Common.{◌≡◌, ℕ, ◌<◌, ◌≤◌, Bool, true, false, ◌&&◌, ◌||◌, not, List, [], ◌∷◌, refl, sym, ◌∙◌, ap, arith, length}
use Rattle.std.specs.Prelude.{codes, if◌then◌else◌, ◌==◌}
use Rattle.std.specs.List.{list_all}
use Rattle.std.specs.Cmp.Lexicographic.{pointwise, slice_cmp}
use Rattle.std.specs.declared.cmp.Ordering.TheVariants.{Less}
use Rattle.std.specs.Ordering.{nat_cmp, ordering_then, is_lt}
use Rattle.std.proofs.lemmas.Bool.{false≢true, eq-eqb, eqb-true, and_from}
use Rattle.std.proofs.lemmas.Bool.Decides.{nat_tests}
use Rattle.lfg_terms.specs.Order.{name_cmp, edge_cmp, node_cmp}
use Rattle.lfg_terms.proofs.Layers.{node_cmp-At}
use Rattle.lfg_terms.specs.declared.node.Edge.{Edge}
use Rattle.lfg_terms.specs.declared.node.Node as node
use Rattle.lfg_terms.specs.declared.node.Node.{Node}
use Rattle.lfg_terms.specs.declared.node.Arg as arg
use Rattle.lfg_terms.specs.declared.node.Arg.{Arg}
use Rattle.lfg_terms.specs.declared.node.Fact.{Fact}
use Rattle.lfg_terms.specs.declared.grammar.Form.{Form}
use Rattle.lfg_terms.specs.declared.literal.Literal.{Literal}
use Rattle.lfg_model.specs.declared.constant.Constant.{Constant}
use Rattle.lfg_model.specs.declared.constant.Constant.TheVariants as constant
use Rattle.lfg_model.specs.Lists.{In, here, later}
use Rattle.lfg_model.specs.Terms.{same_name, Name, Path}
use Rattle.lfg_model.specs.Equal.{itself, stated, turned, joined, along}
use Rattle.lfg_model.specs.Trees.{literals}
use Rattle.lfg_model.specs.Literals.{nodes, arcs, values, checks}
use Rattle.lfg_model.specs.Solve.{SameNode, arc, HasValue, value, member, solution, Clash, two_values, beside_arc, beside_member, HasForm, IsWellFormed}
use Rattle.lfg_model.specs.Readings.{Called, by_atom, by_node, IsLeast, IsFact, of_arc, of_member, of_inner, of_outer, has_attribute}
use Rattle.lfg_model.specs.ManWalks.{grammar, pair, S, NP, D, N, V}
use Rattle.lfg_model.proofs.ListLaws.{In-nil}
use Rattle.lfg_model.proofs.LiteralLaws.{literals_between}
use Rattle.lfg_model.proofs.SolutionLaws.{Equal-sym, solution_of_classes, Called-same, one_name}
use Rattle.lfg_model.proofs.Classing.{all_pass, Equal-ends, IsClassing, same_class, below_lower}
use Rattle.lfg_model.proofs.ManWalksTree.{tree}

-- the literals, with the number that `walks` asks for
abbrev pub all_literals : Name → List Literal
all_literals number = literals (grammar number) tree 0

abbrev pub the_literals : List Literal
the_literals = all_literals (codes "sg")

abbrev sg : Name
sg = codes "sg"

abbrev at : Edge → Path → Node
at e p = node.At e p

abbrev pub DEF : Path
DEF = codes "DEF" ∷ []

abbrev pub NUM : Path
NUM = codes "NUM" ∷ []

abbrev pub SUBJ : Path
SUBJ = codes "SUBJ" ∷ []

abbrev pub SUBJ_NUM : Path
SUBJ_NUM = codes "SUBJ" ∷ codes "NUM" ∷ []

abbrev pub TENSE : Path
TENSE = codes "TENSE" ∷ []

of_atom : (a b : Name) → constant.Atom a ≡ constant.Atom b → a ≡ b
of_atom a b e = cc

-- ---- what is equal

module _ (number : Name) where
  V_S : SameNode (all_literals number) (at V []) (at S [])
  V_S = joined (turned (later (later (later (later here))))) (turned (later (later (later here))))

  SUBJ_NP : SameNode (all_literals number) (at S SUBJ) (at NP [])
  SUBJ_NP = stated here

  D_NP : SameNode (all_literals number) (at D []) (at NP [])
  D_NP = turned (later here)

  N_NP : SameNode (all_literals number) (at N []) (at NP [])
  N_NP = turned (later (later here))

  V_SUBJ_NP : SameNode (all_literals number) (at V SUBJ) (at NP [])
  V_SUBJ_NP = joined (along V_S (later (later (later here))) here) SUBJ_NP

  N_V : SameNode (all_literals number) (at N NUM) (at V SUBJ_NUM)
  N_V = along (joined N_NP (joined (turned here) (along (joined (stated (later (later (later here)))) (stated (later (later (later (later here)))))) here (later (later (later here)))))) (later (later here)) (later (later (later (later here))))

-- where `walks` asks for another number, its subject has two
pub plural_clashes : Clash (solution (all_literals (codes "pl")))
plural_clashes =
    two_values (value (itself (later (later (later (later (later (later (later (later (later (later here))))))))))) (later here)) (value (N_V (codes "pl")) (later (later here)))
    (λ e. let z : true ≡ false = ap (same_name (codes "sg")) (of_atom (codes "sg") (codes "pl") e) in false≢true (sym z))

-- ---- what is not equal

same_itself : (a : Name) → same_name a a ≡ true
same_itself [] = refl
same_itself (b ∷ bs) = and_from _ _ (eq-eqb b b refl) (same_itself bs)

-- numbers of the classes, those that arcs lead to below those from which they lead
abbrev class_in : List (Name × Path × ℕ) → Name → Path → ℕ
class_in [] cat p = 9
class_in (r ∷ rs) cat p = if same_name r.0 cat && pointwise same_name r.1 p then r.2 else class_in rs cat p

abbrev table : List (Name × Path × ℕ)
table =
    (codes "S", [], 4) ∷ (codes "VP", [], 4) ∷ (codes "V", [], 4)
    ∷ (codes "S", SUBJ, 3) ∷ (codes "NP", [], 3) ∷ (codes "D", [], 3) ∷ (codes "N", [], 3) ∷ (codes "V", SUBJ, 3)
    ∷ (codes "D", DEF, 0) ∷ (codes "N", NUM, 1) ∷ (codes "V", SUBJ_NUM, 1) ∷ (codes "V", TENSE, 2) ∷ []

abbrev class : Node → ℕ
class (node.At e p) = class_in table e.cat p
class n = 9

told : (p q c : Bool) → p ≡ true → q ≡ true → not (p && q) || c ≡ true → c ≡ true
told true true c e f h = h
told true false c e f h = absurd (false≢true f)
told false q c e f h = absurd (false≢true e)

classing : IsClassing the_literals class
classing = record {
  of_given = λ x y i. let t = all_pass (λ p. class p.0 == class p.1) i refl in grind (arith, nat_tests);
  of_arcs = λ x y t u a i j e.
      let s = all_pass (λ p. list_all (λ q. not (class p.0 == class q.0 && same_name p.1 q.1) || (class p.2 == class q.2)) (arcs the_literals)) i refl in
      let r = all_pass (λ q. not (class x == class q.0 && same_name a q.1) || (class t == class q.2)) j s in
      let c : class t == class u ≡ true = told _ _ _ (eq-eqb _ _ e) (same_itself a) r in
      eqb-true _ _ c;
}

-- the constant of each class
of_class : ℕ → Constant
of_class k = constant.Atom (if k == 0 then codes "yes" else (if k == 1 then codes "sg" else codes "pres"))

value_of : (n : Node) (c : Constant) → In (n, c) (values the_literals) → (c ≡ of_class (class n)) × (class n < 3)
unfolding of_class
value_of n c here = (refl, omega arith)
value_of n c (later here) = (refl, omega arith)
value_of n c (later (later here)) = (refl, omega arith)
value_of n c (later (later (later here))) = (refl, omega arith)
value_of n c (later (later (later (later i)))) = In-nil i

value_class : {x : Node} {c : Constant} → HasValue the_literals x c → (c ≡ of_class (class x)) × (class x < 3)
value_class {x} {c} (value {n} s i) =
    let e = same_class the_literals class classing s in
    let v = value_of n c i in
    (v.0 ∙ ap of_class (sym e), omega (arith, v.1, e))

arc_of : (x : Node) (a : Name) (t : Node) → In (x, a, t) (arcs the_literals) → (3 ≤ class x) × (class t < class x)
arc_of x a t here = (omega arith, omega arith)
arc_of x a t (later here) = (omega arith, omega arith)
arc_of x a t (later (later here)) = (omega arith, omega arith)
arc_of x a t (later (later (later here))) = (omega arith, omega arith)
arc_of x a t (later (later (later (later here)))) = (omega arith, omega arith)
arc_of x a t (later (later (later (later (later here))))) = (omega arith, omega arith)
arc_of x a t (later (later (later (later (later (later i)))))) = In-nil i

no_clash : ¬ Clash (solution the_literals)
no_clash (two_values v w apart) = apart ((value_class v).0 ∙ sym (value_class w).0)
no_clash (beside_arc v (arc s i r)) =
    let k = (value_class v).1 in
    let m = (arc_of _ _ _ i).0 in
    let e = same_class the_literals class classing s in
    omega (arith, k, m, e)
no_clash (beside_member v (member s i r)) = In-nil i

no_form : (x : Node) (form : Form) → ¬ HasForm (solution the_literals) x form
unfolding of_class
no_form x form h = go (value_class h.is_value).0
  where
    go : constant.Form form h.site h.index ≡ of_class (class h.at) → ⊥
    go e = cc

pub well_formed : IsWellFormed (solution the_literals) [] (checks the_literals)
well_formed = record {
  consistent = no_clash;
  acyclic = λ x b. let l = below_lower the_literals class classing (λ y t a i. (arc_of y a t i).1) refl b in omega (arith, l);
  satisfied = λ c i. In-nil i;
  complete = record { inner = λ x form g h. absurd (no_form x form h); outer = λ x form g h. absurd (no_form x form h) };
  coherent = record { each = λ x t g i. In-nil i };
}

-- ---- what classes are called

abbrev name_of : ℕ → Arg
name_of k = if k == 0 then arg.Atom (codes "yes") else (if k == 1 then arg.Atom (codes "sg") else (if k == 2 then arg.Atom (codes "pres") else (if k == 3 then arg.Node (at NP []) else arg.Node (at S []))))

free : (x : Node) → 3 ≤ class x → (c : Constant) → ¬ HasValue the_literals x c
free x l c v = let k = (value_class v).1 in omega (arith, k, l)

-- a node of the class that is not before the edge's node
is_behind : ℕ → Edge → Node → Bool
is_behind k e (node.At f p) = not (class (node.At f p) == k) || not (is_lt (ordering_then (ordering_then (nat_cmp (length p) 0) (edge_cmp f e)) (slice_cmp name_cmp p [])))
is_behind k e n = false

behind : (k : ℕ) (e : Edge) (w : Node) → is_behind k e w ≡ true → class w ≡ k → ¬ (node_cmp w (at e []) ≡ Less)
unfolding is_behind
behind k e (node.At f p) t c less =
    let l : is_lt (ordering_then (ordering_then (nat_cmp (length p) 0) (edge_cmp f e)) (slice_cmp name_cmp p [])) ≡ true = ap is_lt (sym (node_cmp-At f e p []) ∙ less) in
    go _ _ (eq-eqb _ _ c) l t
  where
    go : (p q : Bool) → p ≡ true → q ≡ true → not p || not q ≡ true → ⊥
    go true true e f h = false≢true h
    go true false e f h = false≢true f
    go false q e f h = false≢true e
behind k e w t c less = absurd (false≢true t)

least : (e : Edge) (k : ℕ) → class (at e []) ≡ k → list_all (is_behind k e) (nodes the_literals) ≡ true → SameNode the_literals (at e []) (at e []) → IsLeast (solution the_literals) (at e []) (at e [])
least e k is t itself' = record {
  same = itself';
  least = λ w s.
      behind k e w (all_pass (is_behind k e) (Equal-ends (literals_between the_literals) s).1 t) (sym (same_class the_literals class classing s) ∙ is);
}

called_S : Called (solution the_literals) (at S []) (arg.Node (at S []))
unfolding is_behind
called_S = by_node (free (at S []) (omega arith)) (least S 4 refl refl (itself here))

called_NP : Called (solution the_literals) (at NP []) (arg.Node (at NP []))
unfolding is_behind
called_NP = by_node (free (at NP []) (omega arith)) (least NP 3 refl refl (itself (later (later here))))

renamed : (x n : Node) (c : Arg) → SameNode the_literals n x → Called (solution the_literals) x c → Called (solution the_literals) n c
renamed x n c e h = Called-same (solution the_literals) (solution_of_classes the_literals) x n c e h

called_sg : Called (solution the_literals) (at N NUM) (arg.Atom (codes "sg"))
called_sg = by_atom (value (itself (later (later (later (later (later (later (later (later (later (later here))))))))))) (later here))

source_there : (x : Node) (a : Name) (t : Node) → In (x, a, t) (arcs the_literals) → In x (nodes the_literals)
source_there x a t i = ((literals_between the_literals).arc_ends x a t i).0

target_there : (x : Node) (a : Name) (t : Node) → In (x, a, t) (arcs the_literals) → In t (nodes the_literals)
target_there x a t i = ((literals_between the_literals).arc_ends x a t i).1

-- the name of each end of an arc is that of its class
ends_called : (x : Node) (a : Name) (t : Node) → In (x, a, t) (arcs the_literals)
    → Called (solution the_literals) x (name_of (class x)) × Called (solution the_literals) t (name_of (class t))
ends_called x a t here = (called_S, renamed (at NP []) (at S SUBJ) _ (SUBJ_NP sg) called_NP)
ends_called x a t (later here) = (renamed (at NP []) (at D []) _ (D_NP sg) called_NP, by_atom (value (itself (later (later (later (later (later (later here))))))) here))
ends_called x a t (later (later here)) = (renamed (at NP []) (at N []) _ (N_NP sg) called_NP, called_sg)
ends_called x a t (later (later (later here))) = (renamed (at S []) (at V []) _ (V_S sg) called_S, renamed (at NP []) (at V SUBJ) _ (V_SUBJ_NP sg) called_NP)
ends_called x a t (later (later (later (later here)))) =
    (renamed (at NP []) (at V SUBJ) _ (V_SUBJ_NP sg) called_NP, renamed (at N NUM) (at V SUBJ_NUM) _ (Equal-sym (N_V sg)) called_sg)
ends_called x a t (later (later (later (later (later here))))) =
    (renamed (at S []) (at V []) _ (V_S sg) called_S, by_atom (value (itself (target_there x a t (later (later (later (later (later here))))))) (later (later (later here)))))
ends_called x a t (later (later (later (later (later (later i)))))) = In-nil i

fact_of : (x : Node) (a : Name) (t : Node) → In (x, a, t) (arcs the_literals) → In (has_attribute a (name_of (class x)) (name_of (class t))) pair.facts
fact_of x a t here = later (later here)
fact_of x a t (later here) = here
fact_of x a t (later (later here)) = later here
fact_of x a t (later (later (later here))) = later (later here)
fact_of x a t (later (later (later (later here)))) = later here
fact_of x a t (later (later (later (later (later here))))) = later (later (later here))
fact_of x a t (later (later (later (later (later (later i)))))) = In-nil i

one : (x : Node) (c d : Arg) → Called (solution the_literals) x c → Called (solution the_literals) x d → c ≡ d
one x c d h k = one_name (solution the_literals) (solution_of_classes the_literals) no_clash x c d h k

pub fact_listed : (f : Fact) → IsFact (solution the_literals) f → In f pair.facts
fact_listed f (of_arc {x} {t} {a} {c} {u} (arc {n} {u = m} s i r) cx ct) =
    let e = ends_called n a m i in
    let from : c ≡ name_of (class n) = one n c _ (renamed x n c (Equal-sym s) cx) e.0 in
    let to : u ≡ name_of (class m) = one m u _ (renamed t m u r ct) e.1 in
    rw (from, to) (fact_of n a m i)
fact_listed f (of_member (member s i r) cx cm) = In-nil i
fact_listed f (of_inner k h cx g) = absurd (no_form _ _ h)
fact_listed f (of_outer k h cx g) = absurd (no_form _ _ h)

of_listed : (x : Node) (a : Name) (t : Node) → In (x, a, t) (arcs the_literals) → IsFact (solution the_literals) (has_attribute a (name_of (class x)) (name_of (class t)))
of_listed x a t i = let e = ends_called x a t i in of_arc (arc (itself (source_there x a t i)) i (itself (target_there x a t i))) e.0 e.1

pub listed_fact : (f : Fact) → In f pair.facts → IsFact (solution the_literals) f
listed_fact f here = of_listed (at D []) (codes "DEF") (at D DEF) (later here)
listed_fact f (later here) = of_listed (at N []) (codes "NUM") (at N NUM) (later (later here))
listed_fact f (later (later here)) = of_listed (at S []) (codes "SUBJ") (at S SUBJ) here
listed_fact f (later (later (later here))) = of_listed (at V []) (codes "TENSE") (at V TENSE) (later (later (later (later (later here)))))
listed_fact f (later (later (later (later i)))) = In-nil i
