-- Parts from what is reached and what can end, and back.
use Rattle.std.proofs.Common.{◌≡◌, ℕ, ◌+◌, List, ◌∷◌, ◌++◌, refl, sym, subst, Some, None}
use Rattle.lfg_terms.specs.declared.node.Edge.{Edge}
use Rattle.lfg_terms.specs.declared.literal.Site.TheVariants as site
use Rattle.lfg_terms.specs.declared.grammar.Item.{Item}
use Rattle.lfg_terms.specs.declared.grammar.Rule.{Rule}
use Rattle.lfg_terms.specs.declared.grammar.Grammar.{Grammar}
use Rattle.lfg_terms.specs.declared.tree.TokenForms.{TokenForms}
use Rattle.lfg_model.specs.declared.point.Next.TheVariants as next
use Rattle.lfg_model.specs.Lists.{In, here, later}
use Rattle.lfg_model.specs.Terms.{Name, annotation_of, Tree, leaf, inner, Parts, no_part, empty, daughter}
use Rattle.lfg_model.specs.Places.{places, PicksFit}
use Rattle.lfg_model.specs.Derive.{rule_of, item_at, CanFollow, Runs, occurrences, edge, Derives, Covers}
use Rattle.lfg_model.specs.Trees.{width, edge_of}
use Rattle.lfg_model.specs.Spots.{point, Spot, AnEdge, AStep, APick, spots_of, parts_spots}
use Rattle.lfg_model.specs.Kept.{Derivable, Crosses, by_none, by_edge, Reaches, at_start, go_on, Ends, at_end, before, IsFillable}
use Rattle.lfg_model.proofs.ListLaws.{In-append_left, In-append_right}
use Rattle.lfg_model.proofs.Spans.{tree_end, tree_edge}

-- parts that the graph allows behind item q, and that cover the tokens from a place to the end
pub record Rest (g : Grammar) (s : List TokenForms) (rule : Rule) (q at end : ℕ) : Type 0 where
  pub parts : Parts
  pub runs : Runs rule.graph q (occurrences parts)
  pub covers : Covers g s rule parts at end

-- such parts with one more in front, which has these picks
pub record Longer (g : Grammar) (s : List TokenForms) (rule : Rule) (q at end p mid : ℕ) (picks : List ℕ) (rest : Rest g s rule p mid end) : Type 0 where
  pub more : Rest g s rule q at end
  pub step : (e : Edge) → In (AStep (point e q at) (next.Item p mid)) (parts_spots e q more.parts at)
  pub pick : (e : Edge) → In (APick (site.Item e p at mid) picks) (parts_spots e q more.parts at)
  pub keeps : (e : Edge) (x : Spot) → In x (parts_spots e p rest.parts mid) → In x (parts_spots e q more.parts at)

-- such parts with a daughter in front
pub record LongerBy (g : Grammar) (s : List TokenForms) (rule : Rule) (q at end p mid : ℕ) (picks : List ℕ) (rest : Rest g s rule p mid end) (d : Edge) : Type 0 where
  pub longer : Longer g s rule q at end p mid picks rest
  pub edge : (e : Edge) → In (AnEdge d) (parts_spots e q longer.more.parts at)

-- a derivation has its own edge
pub has_edge : (g : Grammar) (s : List TokenForms) (d : Tree) (e : Edge) → Derives g s d e → In (AnEdge e) (spots_of d e.from)
has_edge g s d e h = let P : Edge → Type 0 = λ z. In (AnEdge z) (spots_of d e.from) in subst P (tree_edge g s d e h) (first d e.from)
  where
    first : (d : Tree) (from : ℕ) → In (AnEdge (edge_of d from)) (spots_of d from)
    first (leaf cat entry picks) from = here
    first (inner cat parts) from = here

module _ (g : Grammar) (s : List TokenForms) (rule : Rule) where
  pub front_none : (q at p end : ℕ) (picks : List ℕ) → CanFollow rule.graph q p → (item : Item) → item_at rule.items p ≡ Some item → item.cat ≡ None
      → PicksFit picks (places (annotation_of item.schemata)) → (rest : Rest g s rule p at end) → Longer g s rule q at end p at picks rest
  front_none q at p end picks follow item h none fits rest =
      record {
        more = record {
          parts = empty p picks rest.parts;
          runs = (follow, rest.runs);
          covers = (record { item = item; listed = h; category = none; fits = fits }, rest.covers);
        };
        step = λ e. here;
        pick = λ e. later here;
        keeps = λ e x i. later (later i);
      }

  pub front_edge : (q at mid p end : ℕ) (picks : List ℕ) → CanFollow rule.graph q p → (item : Item) (cat : Name) → item_at rule.items p ≡ Some item → item.cat ≡ Some cat
      → PicksFit picks (places (annotation_of item.schemata)) → Derivable g s (edge cat at mid) → (rest : Rest g s rule p mid end)
      → LongerBy g s rule q at end p mid picks rest (edge cat at mid)
  front_edge q at mid p end picks follow item cat h hc fits d rest =
      let w : at + width d.tree ≡ mid = tree_end g s d.tree _ d.derives in
      let tail : Edge → ℕ → List Spot =
      λ e n. AStep (point e q at) (next.Item p n) ∷ APick (site.Item e p at n) picks ∷ spots_of d.tree at ++ parts_spots e p rest.parts n in
      record {
        longer = record {
          more = record {
            parts = daughter p picks d.tree rest.parts;
            runs = (follow, rest.runs);
            covers = (cat, mid, record { item = item; listed = h; category = hc; fits = fits }, d.derives, rest.covers);
          };
          step = λ e. (let P : ℕ → Type 0 = λ n. In (AStep (point e q at) (next.Item p mid)) (tail e n) in subst P (sym w) here);
          pick = λ e. (let P : ℕ → Type 0 = λ n. In (APick (site.Item e p at mid) picks) (tail e n) in subst P (sym w) (later here));
          keeps = λ e x i. (let P : ℕ → Type 0 = λ n. In x (tail e n) in subst P (sym w) (later (later (In-append_right (spots_of d.tree at) i))));
        };
        edge = λ e. later (later (In-append_left _ (has_edge g s d.tree _ d.derives)));
      }

module _ (g : Grammar) (s : List TokenForms) (fill : IsFillable g) (cat : Name) (rule : Rule) (is : rule_of g cat ≡ Some rule) where
  -- what can end has parts
  pub rest_of : (end q at : ℕ) → Ends g s rule end q at → Rest g s rule q at end
  rest_of end q at (at_end h) = record { parts = no_part; runs = h; covers = refl }
  rest_of end q at (before {mid = mid} p follow crosses ends) = front end q at mid p follow crosses (rest_of end p mid ends)
    where
      front : (end q at mid p : ℕ) → CanFollow rule.graph q p → Crosses g s rule p at mid → Rest g s rule p mid end → Rest g s rule q at end
      front end q at mid p follow (by_none item h none) rest = let f = fill.items cat rule p item is h in (front_none g s rule q at p end f.0 follow item h none f.1 rest).more
      front end q at mid p follow (by_edge item c h hc d) rest = let f = fill.items cat rule p item is h in (front_edge g s rule q at mid p end f.0 follow item c h hc f.1 d rest).longer.more

  -- what is reached has parts in front
  pub record Full (start q at end : ℕ) (rest : Rest g s rule q at end) : Type 0 where
    pub all : Rest g s rule 0 start end
    pub keeps : (e : Edge) (x : Spot) → In x (parts_spots e q rest.parts at) → In x (parts_spots e 0 all.parts start)

  pub full : (start end q at : ℕ) → Reaches g s rule start q at → (rest : Rest g s rule q at end) → Full start q at end rest
  full start end q at at_start rest = record { all = rest; keeps = λ e x i. i }
  full start end q at (go_on {q = q0} {at = at0} p reach follow crosses) rest = front q0 at0 p at follow crosses rest (λ rest0. full start end q0 at0 reach rest0)
    where
      joined : (q0 at0 p mid : ℕ) (picks : List ℕ) (rest : Rest g s rule p mid end) (l : Longer g s rule q0 at0 end p mid picks rest) → Full start q0 at0 end l.more → Full start p mid end rest
      joined q0 at0 p mid picks rest l f = record { all = f.all; keeps = λ e x i. f.keeps e x (l.keeps e x i) }

      front : (q0 at0 p mid : ℕ) → CanFollow rule.graph q0 p → Crosses g s rule p at0 mid → (rest : Rest g s rule p mid end)
          → ((rest0 : Rest g s rule q0 at0 end) → Full start q0 at0 end rest0) → Full start p mid end rest
      front q0 at0 p mid follow (by_none item h none) rest rec =
          let f = fill.items cat rule p item is h in
          let l = front_none g s rule q0 at0 p end f.0 follow item h none f.1 rest in
          joined q0 at0 p at0 f.0 rest l (rec l.more)
      front q0 at0 p mid follow (by_edge item c h hc d) rest rec =
          let f = fill.items cat rule p item is h in
          let l = front_edge g s rule q0 at0 mid p end f.0 follow item c h hc f.1 d rest in
          joined q0 at0 p mid f.0 rest l.longer (rec l.longer.more)
