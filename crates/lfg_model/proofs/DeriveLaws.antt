-- A derivation covers as many tokens as its edge.
use Rattle.std.proofs.Common.{◌≡◌, ℕ, ◌+◌, List, ap, arith}
use Rattle.lfg_terms.specs.declared.node.Edge.{Edge}
use Rattle.lfg_terms.specs.declared.grammar.Rule.{Rule}
use Rattle.lfg_terms.specs.declared.grammar.Grammar.{Grammar}
use Rattle.lfg_terms.specs.declared.tree.TokenForms.{TokenForms}
use Rattle.lfg_model.specs.Terms.{Tree, leaf, inner, Parts, no_part, empty, daughter}
use Rattle.lfg_model.specs.Derive.{Derives, Covers}
use Rattle.lfg_model.specs.Trees.{width, parts_width, edge_of}

mutual
  pub Derives-width : (g : Grammar) (s : List TokenForms) (d : Tree) (e : Edge) → Derives g s d e → e.to ≡ e.from + width d
  Derives-width g s (leaf cat entry picks) e h = ap (λ f. f.to) h.0
  Derives-width g s (inner cat parts) e h = Covers-width g s h.1.0 parts e.from e.to h.1.3

  pub Covers-width : (g : Grammar) (s : List TokenForms) (rule : Rule) (parts : Parts) (at to : ℕ) → Covers g s rule parts at to → to ≡ at + parts_width parts
  Covers-width g s rule no_part at to h = omega (arith, h)
  Covers-width g s rule (empty occ picks rest) at to h = Covers-width g s rule rest at to h.1
  Covers-width g s rule (daughter occ picks below rest) at to h =
      let here = Derives-width g s below _ h.3 in
      let there = Covers-width g s rule rest h.1 to h.4 in
      omega (arith, here, there)

cat_is : (g : Grammar) (s : List TokenForms) (d : Tree) (e : Edge) → Derives g s d e → e.cat ≡ (edge_of d e.from).cat
cat_is g s (leaf cat entry picks) e h = ap (λ f. f.cat) h.0
cat_is g s (inner cat parts) e h = h.0

-- so its edge is that of the tree at its start
pub Derives-edge : (g : Grammar) (s : List TokenForms) (d : Tree) (e : Edge) → Derives g s d e → e ≡ edge_of d e.from
Derives-edge g s d e h =
    let a = cat_is g s d e h in
    let b = Derives-width g s d e h in
    λ i. record { cat = a i; from = e.from; to = b i }
