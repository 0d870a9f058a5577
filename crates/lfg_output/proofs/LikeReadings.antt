-- Grammars that are the same as plain data derive the same trees with the same literals, and give a
-- sentence the same readings.
use Rattle.std.proofs.Common.{◌≡◌, ℕ, ◌+◌, List, ◌++◌, Option, Some, None, length, refl, sym, ap, ◌∙◌, subst, Ordering}
use Rattle.lfg_terms.specs.declared.node.Edge.{Edge}
use Rattle.lfg_terms.specs.declared.node.Fact.{Fact}
use Rattle.lfg_terms.specs.declared.literal.Site.TheVariants as site
use Rattle.lfg_terms.specs.declared.literal.Literal.{Literal}
use Rattle.lfg_terms.specs.declared.grammar.Item.{Item}
use Rattle.lfg_terms.specs.declared.grammar.Rule.{Rule}
use Rattle.lfg_terms.specs.declared.grammar.Grammar.{Grammar}
use Rattle.lfg_terms.specs.declared.tree.TokenForms.{TokenForms}
use Rattle.lfg_terms.specs.Order.{fact_cmp}
use Rattle.lfg_model.specs.declared.pair.Pair.{Pair}
use Rattle.lfg_model.specs.Derive.{occurrences, edge, IsWord, IsItem, Derives, Covers, Whole}
use Rattle.lfg_model.specs.Lists.{In, Lists}
use Rattle.lfg_model.specs.Literals.{checks}
use Rattle.lfg_model.specs.Loads.{AreLikeItems, AreLikeRules, AreAlike}
use Rattle.lfg_model.specs.Places.{places, PicksFit}
use Rattle.lfg_model.specs.Readings.{solution_of, Assigned, IsFact, IsReading, IsReadings}
use Rattle.lfg_model.specs.Resolve.{resolved}
use Rattle.lfg_model.specs.Solve.{solution, IsWellFormed}
use Rattle.lfg_model.specs.Templates.{Each}
use Rattle.lfg_model.specs.Terms.{Name, Annotation, Tree, leaf, inner, Parts, no_part, empty, daughter}
use Rattle.lfg_model.specs.Trees.{width, parts_width, edge_of, literals, parts_literals}
use Rattle.lfg_output.proofs.LikeLookups.{alike_turned, each_at, item_like, rule_like, items_like, annotation_of_item, annotation_of_entry}

-- a list of what has P is one of what has Q, where these are the same
pub lists_alike : {X : Type 0} {cmp : X → X → Ordering} {P Q : X → Type 0} {xs : List X} → ((x : X) → P x → Q x) → ((x : X) → Q x → P x) → Lists cmp P xs → Lists cmp Q xs
lists_alike there back l = record { ascends = l.ascends; exact = λ x. ((λ i. there x ((l.exact x).0 i)), (λ q. (l.exact x).1 (back x q))) }

-- ---- derivations

item_alike : (r q : Rule) → AreLikeRules r q → (occ : ℕ) (cat : Option Name) (picks : List ℕ) → IsItem r occ cat picks → IsItem q occ cat picks
item_alike r q l occ cat picks i =
    let k = item_like l.items occ i.item i.listed in
    record { item = k.0; listed = k.1; category = sym k.2.cat ∙ i.category; fits = subst (λ (x : Annotation). PicksFit picks (places x)) k.2.annotation i.fits }

module _ (g h : Grammar) (a : AreAlike g h) (s : List TokenForms) where
  word_alike : (cat : Name) (entry : ℕ) (picks : List ℕ) (at : ℕ) → IsWord g s cat entry picks at → IsWord h s cat entry picks at
  word_alike cat entry picks at w =
      let k = each_at a.words entry w.lex w.listed in
      record {
        lex = k.0;
        listed = k.1;
        category = sym k.2.cat ∙ w.category;
        token = w.token;
        read = w.read;
        offered = subst (λ (f : Name). In f w.token.forms) k.2.form w.offered;
        fits = subst (λ (x : Annotation). PicksFit picks (places x)) k.2.annotation w.fits;
      }

  mutual
    pub derives_alike : (d : Tree) (e : Edge) → Derives g s d e → Derives h s d e
    derives_alike (leaf cat entry picks) e w = (w.0, word_alike cat entry picks e.from w.1)
    derives_alike (inner cat parts) e w =
        let k = rule_like cat w.1.0 a.rules w.1.1 in
        (w.0, (k.0, k.1, (k.2.walks (occurrences parts)).0 w.1.2, covers_alike w.1.0 k.0 k.2 parts e.from e.to w.1.3))

    covers_alike : (r q : Rule) → AreLikeRules r q → (parts : Parts) (at to : ℕ) → Covers g s r parts at to → Covers h s q parts at to
    covers_alike r q l no_part at to c = c
    covers_alike r q l (empty occ picks rest) at to c = (item_alike r q l occ None picks c.0, covers_alike r q l rest at to c.1)
    covers_alike r q l (daughter occ picks below rest) at to c =
        (c.0, c.1, item_alike r q l occ (Some c.0) picks c.2, derives_alike below (edge c.0 at c.1) c.3, covers_alike r q l rest c.1 to c.4)

  -- a tree that derives the whole sentence by the one grammar does so by the other
  pub whole_alike : (d : Tree) → Whole g s d → Whole h s d
  whole_alike d w = record {
    some_token = w.some_token;
    derives = subst (λ (root : Name). Derives h s d (edge root 0 (length s))) a.root (derives_alike d (edge g.root 0 (length s)) w.derives);
  }

-- ---- literals

module _ (g h : Grammar) (a : AreAlike g h) where
  mutual
    -- a tree has the same literals by both grammars
    pub literals_alike : (d : Tree) (from : ℕ) → literals g d from ≡ literals h d from
    literals_alike (leaf cat entry picks) from =
        let own = edge cat from (from + 1) in
        ap (λ (x : Annotation). resolved (record { up = own; down = own; site = site.Entry own entry }) x picks 0) (annotation_of_entry a.words entry)
    literals_alike (inner cat parts) from = parts_literals_alike _ _ (items_like cat a.rules) (edge cat from (from + parts_width parts)) parts from

    parts_literals_alike : (is js : List Item) → Each AreLikeItems is js → (mother : Edge) (parts : Parts) (at : ℕ) → parts_literals g is mother parts at ≡ parts_literals h js mother parts at
    parts_literals_alike is js items mother no_part at = refl
    parts_literals_alike is js items mother (empty occ picks rest) at =
        let same = annotation_of_item items occ in
        let tail = parts_literals_alike is js items mother rest at in
        λ i. resolved (record { up = mother; down = mother; site = site.Item mother occ at at }) (same i) picks 0 ++ tail i
    parts_literals_alike is js items mother (daughter occ picks below rest) at =
        let to = at + width below in
        let same = annotation_of_item items occ in
        let inside = literals_alike below at in
        let tail = parts_literals_alike is js items mother rest to in
        λ i. resolved (record { up = mother; down = edge_of below at; site = site.Item mother occ at to }) (same i) picks 0 ++ (inside i ++ tail i)

  -- and so the same facts of its f-structure
  pub facts_alike : (d : Tree) (f : Fact) → IsFact (solution_of g d) f → IsFact (solution_of h d) f
  facts_alike d f x = subst (λ (ls : List Literal). IsFact (solution ls) f) (literals_alike d 0) x

  -- ---- readings

  pub assigned_alike : (s : List TokenForms) (d : Tree) → Assigned g s d → Assigned h s d
  assigned_alike s d w =
      let same = literals_alike d 0 in
      let functions = a.governable in
      record {
        whole = whole_alike g h a s d w.whole;
        well_formed = subst (λ (x : List Literal × List Name). IsWellFormed (solution x.0) x.1 (checks x.0)) (λ i. (same i, functions i)) w.well_formed;
      }

  reading_alike : (s : List TokenForms) (p : Pair) → IsReading g s p → IsReading h s p
  reading_alike s p r = record {
    derivation = r.derivation;
    assigned = assigned_alike s r.derivation r.assigned;
    pair = record {
      tree = r.pair.tree;
      facts = subst (λ (ls : List Literal). Lists fact_cmp (IsFact (solution ls)) p.facts) (literals_alike r.derivation 0) r.pair.facts;
    };
  }

-- a sentence has the same readings by both
pub readings_alike : (g h : Grammar) → AreAlike g h → (s : List TokenForms) (ps : List Pair) → IsReadings g s ps → IsReadings h s ps
readings_alike g h a s ps r = lists_alike (reading_alike g h a s) (reading_alike h g (alike_turned g h a) s) r
