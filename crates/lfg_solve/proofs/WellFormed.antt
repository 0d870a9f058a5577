-- All conditions on an f-structure, from tests of each.
use Rattle.std.proofs.Common.{◌≡◌, Bool, true, false, IsTrue, List, refl, subst, sym}
use Rattle.std.specs.Prelude.{◌↔◌, Result, Ok, Err, IfOk}
use Rattle.std.proofs.lemmas.Bool.{false≢true}
use Rattle.lfg_terms.specs.Order.{fact_cmp}
use Rattle.lfg_terms.specs.declared.grammar.Grammar.{Grammar}
use Rattle.lfg_terms.specs.declared.literal.Check.{Check}
use Rattle.lfg_terms.specs.declared.literal.Literal.{Literal}
use Rattle.lfg_terms.specs.declared.node.Fact.{Fact}
use Rattle.lfg_terms.specs.declared.tree.TokenForms.{TokenForms}
use Rattle.lfg_terms.specs.declared.node.Node.{Node}
use Rattle.lfg_model.specs.Lists.{In, Lists}
use Rattle.lfg_model.specs.Readings.{IsFact, IsPairOf}
use Rattle.lfg_model.specs.Terms.{Name, Tree}
use Rattle.lfg_model.specs.Trees.{literals, tree_facts}
use Rattle.lfg_model.specs.Solve.{Solution, solution, Clash, Below, Holds, IsComplete, IsCoherent, IsWellFormed}
use Rattle.lfg_solve.specs.declared.solution.Solution as held
use Rattle.lfg_solve.specs.Solves.{Solves}

pub passes : (b : Bool) (P : Type 0) → (IsTrue b ↔ P) → b ≡ true → P
passes b P h e = h.0 (subst (λ (x : Bool). IsTrue x) (sym e) refl)

pub fails : (b : Bool) (P : Type 0) → (IsTrue b ↔ P) → b ≡ false → ¬ P
fails b P h e = λ p. false≢true (subst (λ (x : Bool). IsTrue x) e (h.1 p))

-- where one condition is not met, the test of all of them is false
pub refused : (P : Type 0) → ¬ P → IsTrue false ↔ P
refused P n = (λ h. absurd (false≢true h), λ p. absurd (n p))

module _ (y : Solution) (governable : List Name) (constraints : List Check) where
  pub clashing : Clash y → IsTrue false ↔ IsWellFormed y governable constraints
  clashing h = refused _ (λ w. w.consistent h)

  pub cyclic : ((x : Node) × Below y x x) → IsTrue false ↔ IsWellFormed y governable constraints
  cyclic h = refused _ (λ w. w.acyclic h.0 h.1)

  pub all_met : (b : Bool) → ¬ Clash y → IsComplete y → IsCoherent y governable → ¬ ((x : Node) × Below y x x)
      → (IsTrue b ↔ ((c : Check) → In c constraints → Holds y c)) → IsTrue b ↔ IsWellFormed y governable constraints
  all_met b consistent complete coherent acyclic h = (
    λ t. record { consistent = consistent; acyclic = λ x l. acyclic (x, l); satisfied = h.0 t; complete = complete; coherent = coherent },
    λ w. h.1 w.satisfied,
  )

-- what holds of what was answered, from what else holds of it
pub ok_from : {T E : Type 0} (P Q : T → Type 0) (r : Result T E) → ((v : T) → P v → Q v) → IfOk r P → IfOk r Q
ok_from P Q (Ok v) f h = f v h
ok_from P Q (Err e) f h = tt

-- the pair of a derivation whose solution has no clash
pub pair_from : (g : Grammar) (s : List TokenForms) (d : Tree) (ls : List Literal) (y : held.Solution) (tree facts found set : List Fact) → ls ≡ literals g d 0 → Solves ls y
    → ¬ Clash (solution ls) → Lists fact_cmp (λ f. In f (tree_facts s d 0)) found → ((ms : List Literal) → Solves ms y → ¬ Clash (solution ms) → Lists fact_cmp (IsFact (solution ms)) set)
    → tree ≡ found → facts ≡ set → IsPairOf g s d (record { tree = tree; facts = facts })
pair_from g s d ls y tree facts found set e solves consistent t f p q = record {
  tree = subst (λ (x : List Fact). Lists fact_cmp (λ a. In a (tree_facts s d 0)) x) (sym p) t;
  facts = let r = sym q in subst (λ (x : List Fact × List Literal). Lists fact_cmp (IsFact (solution x.1)) x.0) (λ i. (r i, e i)) (f ls solves consistent);
}
