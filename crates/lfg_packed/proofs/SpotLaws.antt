-- The literals and the tree facts of a derivation are those of all that it has.
use Rattle.std.proofs.Common.{◌≡◌, ℕ, ◌+◌, Option, Some, None, List, [], ◌∷◌, ◌++◌, slice_get, ap, refl, sym, ◌∙◌, subst}
use Rattle.std.specs.List.{flat_map}
use Rattle.lfg_terms.specs.declared.node.Edge.{Edge}
use Rattle.lfg_terms.specs.declared.node.Fact.{Fact}
use Rattle.lfg_terms.specs.declared.literal.Site.TheVariants as site
use Rattle.lfg_terms.specs.declared.literal.Literal.{Literal}
use Rattle.lfg_terms.specs.declared.grammar.Item.{Item}
use Rattle.lfg_terms.specs.declared.grammar.Rule.{Rule}
use Rattle.lfg_terms.specs.declared.grammar.Grammar.{Grammar}
use Rattle.lfg_terms.specs.declared.tree.TokenForms.{TokenForms}
use Rattle.lfg_model.specs.Terms.{Name, Tree, leaf, inner, Parts, no_part, empty, daughter}
use Rattle.lfg_model.specs.Derive.{rule_of, item_at, IsItem, edge, Derives, Covers}
use Rattle.lfg_model.specs.Resolve.{Instance, resolved}
use Rattle.lfg_model.specs.Trees.{width, edge_of, cat_of, items_of, item_annotation, entry_annotation, literals, parts_literals, under, word_facts, tree_facts, parts_facts}
use Rattle.lfg_model.specs.Spots.{Spot, spots_of, parts_spots}
use Rattle.lfg_model.proofs.Spans.{tree_end, tree_edge}
use Rattle.lfg_packed.proofs.Listing.{flat_append}
use Rattle.lfg_packed.specs.SpotFacts.{category_of, category_at, below_of, spot_literals, under_facts, spot_facts, LiteralsAreOfSpots, TreeFactsAreOfSpots}

-- the category of a part's item
looked_up : (rule : Rule) (occ : ℕ) (cat : Option Name) (picks : List ℕ) → IsItem rule occ cat picks → category_of (item_at rule.items occ) ≡ cat
looked_up rule occ cat picks i = ap category_of i.listed ∙ i.category

at_edge : (g : Grammar) (e : Edge) (rule : Rule) (occ : ℕ) → rule_of g e.cat ≡ Some rule → category_at g e occ ≡ category_of (item_at rule.items occ)
at_edge g e rule occ is = ap (λ r. category_of (item_at (items_of r) occ)) is

module _ (g : Grammar) (s : List TokenForms) where
  mutual
    pub tree_literals : (d : Tree) (e : Edge) → Derives g s d e → literals g d e.from ≡ flat_map (spot_literals g) (spots_of d e.from)
    tree_literals (leaf cat entry picks) e h = sym (append_nil _)
      where
        append_nil : {Y : Type 0} (ys : List Y) → ys ++ [] ≡ ys
        append_nil [] = refl
        append_nil (y ∷ ys) = ap (λ zs. y ∷ zs) (append_nil ys)
    tree_literals (inner cat parts) e h =
        let own : rule_of g e.cat ≡ Some h.1.0 = ap (rule_of g) h.0 ∙ h.1.1 in
        let same = tree_edge g s (inner cat parts) e h in
        let items : items_of (rule_of g cat) ≡ h.1.0.items = ap items_of h.1.1 in
        let P : Edge → Type 0 = λ z. parts_literals g (items_of (rule_of g cat)) z parts e.from ≡ flat_map (spot_literals g) (parts_spots z 0 parts e.from) in
        subst P (sym same) (ap (λ is. parts_literals g is e parts e.from) items ∙ part_literals parts e h.1.0 0 e.from own h.1.3)

    part_literals : (parts : Parts) (e : Edge) (rule : Rule) (q at : ℕ) → rule_of g e.cat ≡ Some rule → Covers g s rule parts at e.to
        → parts_literals g rule.items e parts at ≡ flat_map (spot_literals g) (parts_spots e q parts at)
    part_literals no_part e rule q at is h = refl
    part_literals (empty occ picks rest) e rule q at is h =
        let c : category_at g e occ ≡ None = at_edge g e rule occ is ∙ looked_up rule occ None picks h.0 in
        let items : rule.items ≡ items_of (rule_of g e.cat) = sym (ap items_of is) in
        let own : resolved (record { up = e; down = e; site = site.Item e occ at at }) (item_annotation (item_at rule.items occ)) picks 0
        ≡ resolved (record { up = e; down = below_of e at at (category_at g e occ); site = site.Item e occ at at }) (item_annotation (item_at (items_of (rule_of g e.cat)) occ)) picks 0 =
        (λ i. resolved (record { up = e; down = below_of e at at (sym c i); site = site.Item e occ at at }) (item_annotation (item_at (items i) occ)) picks 0) in
        let tail = part_literals rest e rule occ at is h.1 in
        λ i. own i ++ tail i
    part_literals (daughter occ picks below rest) e rule q at is h =
        let c : category_at g e occ ≡ Some h.0 = at_edge g e rule occ is ∙ looked_up rule occ (Some h.0) picks h.2 in
        let items : rule.items ≡ items_of (rule_of g e.cat) = sym (ap items_of is) in
        let w : at + width below ≡ h.1 = tree_end g s below _ h.3 in
        let m : edge_of below at ≡ edge h.0 at h.1 = tree_edge g s below _ h.3 in
        let down : edge_of below at ≡ below_of e at (at + width below) (category_at g e occ) = m ∙ (λ i. edge h.0 at (sym w i)) ∙ (λ i. below_of e at (at + width below) (sym c i)) in
        let own : resolved (record { up = e; down = edge_of below at; site = site.Item e occ at (at + width below) }) (item_annotation (item_at rule.items occ)) picks 0
        ≡ resolved (record { up = e; down = below_of e at (at + width below) (category_at g e occ); site = site.Item e occ at (at + width below) }) (item_annotation (item_at (items_of (rule_of g e.cat)) occ)) picks 0 =
        (λ i. resolved (record { up = e; down = down i; site = site.Item e occ at (at + width below) }) (item_annotation (item_at (items i) occ)) picks 0) in
        let under_it = tree_literals below _ h.3 in
        let C : ℕ → Type 0 = λ n. Covers g s rule rest n e.to in
        let tail = part_literals rest e rule occ (at + width below) is (subst C (sym w) h.4) in
        let both : literals g below at ++ parts_literals g rule.items e rest (at + width below) ≡ flat_map (spot_literals g) (spots_of below at ++ parts_spots e occ rest (at + width below)) =
        (λ i. under_it i ++ tail i) ∙ sym (flat_append (spot_literals g) (spots_of below at) (parts_spots e occ rest (at + width below))) in
        λ i. own i ++ both i

  mutual
    pub tree_facts_of : (d : Tree) (e : Edge) → Derives g s d e → tree_facts s d e.from ≡ flat_map (spot_facts g s) (spots_of d e.from)
    tree_facts_of (leaf cat entry picks) e h = sym (append_nil _)
      where
        append_nil : {Y : Type 0} (ys : List Y) → ys ++ [] ≡ ys
        append_nil [] = refl
        append_nil (y ∷ ys) = ap (λ zs. y ∷ zs) (append_nil ys)
    tree_facts_of (inner cat parts) e h =
        let own : rule_of g e.cat ≡ Some h.1.0 = ap (rule_of g) h.0 ∙ h.1.1 in
        let same = tree_edge g s (inner cat parts) e h in
        let P : Edge → Type 0 = λ z. parts_facts s z parts e.from ≡ flat_map (spot_facts g s) (parts_spots z 0 parts e.from) in
        subst P (sym same) (part_facts parts e h.1.0 0 e.from own h.1.3)

    part_facts : (parts : Parts) (e : Edge) (rule : Rule) (q at : ℕ) → rule_of g e.cat ≡ Some rule → Covers g s rule parts at e.to
        → parts_facts s e parts at ≡ flat_map (spot_facts g s) (parts_spots e q parts at)
    part_facts no_part e rule q at is h = refl
    part_facts (empty occ picks rest) e rule q at is h =
        let c : category_at g e occ ≡ None = at_edge g e rule occ is ∙ looked_up rule occ None picks h.0 in
        let tail = part_facts rest e rule occ at is h.1 in
        let own : [] ≡ under_facts e at at (category_at g e occ) = (λ i. under_facts e at at (sym c i)) in
        λ i. own i ++ tail i
    part_facts (daughter occ picks below rest) e rule q at is h =
        let c : category_at g e occ ≡ Some h.0 = at_edge g e rule occ is ∙ looked_up rule occ (Some h.0) picks h.2 in
        let w : at + width below ≡ h.1 = tree_end g s below _ h.3 in
        let m : edge_of below at ≡ edge h.0 at h.1 = tree_edge g s below _ h.3 in
        let down : edge_of below at ≡ edge h.0 at (at + width below) = m ∙ (λ i. edge h.0 at (sym w i)) in
        let own : under (edge_of below at) e ∷ [] ≡ under_facts e at (at + width below) (category_at g e occ) =
        (λ i. under (down i) e ∷ []) ∙ (λ i. under_facts e at (at + width below) (sym c i)) in
        let under_it = tree_facts_of below _ h.3 in
        let C : ℕ → Type 0 = λ n. Covers g s rule rest n e.to in
        let tail = part_facts rest e rule occ (at + width below) is (subst C (sym w) h.4) in
        let both : tree_facts s below at ++ parts_facts s e rest (at + width below) ≡ flat_map (spot_facts g s) (spots_of below at ++ parts_spots e occ rest (at + width below)) =
        (λ i. under_it i ++ tail i) ∙ sym (flat_append (spot_facts g s) (spots_of below at) (parts_spots e occ rest (at + width below))) in
        λ i. own i ++ both i

pub literals_are_of_spots : LiteralsAreOfSpots
literals_are_of_spots g s d e h = tree_literals g s d e h

pub tree_facts_are_of_spots : TreeFactsAreOfSpots
tree_facts_are_of_spots g s d e h = tree_facts_of g s d e h
