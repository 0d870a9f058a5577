-- What each thing that a derivation has gives: the literals of its annotation, or a fact of its tree.
use Rattle.std.specs.Prelude.{◌≡◌, ℕ, Option, Some, None, List, [], ◌∷◌, slice_get}
use Rattle.std.specs.List.{flat_map}
use Rattle.lfg_terms.specs.declared.node.Edge.{Edge}
use Rattle.lfg_terms.specs.declared.node.Fact.{Fact}
use Rattle.lfg_terms.specs.declared.literal.Site.{Site}
use Rattle.lfg_terms.specs.declared.literal.Site.TheVariants as site
use Rattle.lfg_terms.specs.declared.literal.Literal.{Literal}
use Rattle.lfg_terms.specs.declared.grammar.Item.{Item}
use Rattle.lfg_terms.specs.declared.grammar.Grammar.{Grammar}
use Rattle.lfg_terms.specs.declared.tree.TokenForms.{TokenForms}
use Rattle.lfg_model.specs.declared.point.Next.TheVariants as next
use Rattle.lfg_model.specs.Terms.{Name, Tree}
use Rattle.lfg_model.specs.Derive.{rule_of, item_at, edge, Derives}
use Rattle.lfg_model.specs.Resolve.{Instance, resolved}
use Rattle.lfg_model.specs.Trees.{items_of, under, word_facts, literals, tree_facts}
use Rattle.lfg_model.specs.Spots.{Spot, AnEdge, AStep, AWord, APick, spots_of}
use Rattle.lfg_packed.specs.Choices.{annotation_at}

-- the category of an item that was looked up; none for `e`
abbrev pub category_of : Option Item → Option Name
category_of None = None
category_of (Some item) = item.cat

-- the category of an item of the rule of an edge
abbrev pub category_at : Grammar → Edge → ℕ → Option Name
category_at g e occ = category_of (item_at (items_of (rule_of g e.cat)) occ)

-- the edge over which an item goes: the daughter's, or the mother's own for `e`
abbrev pub below_of : Edge → ℕ → ℕ → Option Name → Edge
below_of e at to None = e
below_of e at to (Some cat) = edge cat at to

-- an annotation where it stands: at an item `^` is the mother's edge and `!` the daughter's, at `e`
-- both are the mother's, at an entry both are the word's
abbrev pub instance_at : Grammar → Site → Instance
instance_at g (site.Item e occ at to) = record { up = e; down = below_of e at to (category_at g e occ); site = site.Item e occ at to }
instance_at g (site.Entry e k) = record { up = e; down = e; site = site.Entry e k }

-- the literals of an item's or entry's annotation by its picks
abbrev pub site_literals : Grammar → Site → List ℕ → List Literal
site_literals g at picks = resolved (instance_at g at) (annotation_at g at) picks 0

-- what a thing that a derivation has gives: its literals
abbrev pub spot_literals : Grammar → Spot → List Literal
spot_literals g (AnEdge e) = []
spot_literals g (AStep p n) = []
spot_literals g (AWord e k) = []
spot_literals g (APick at picks) = site_literals g at picks

-- the fact of a daughter under its mother; none for `e`
abbrev pub under_facts : Edge → ℕ → ℕ → Option Name → List Fact
under_facts e at to None = []
under_facts e at to (Some cat) = under (edge cat at to) e ∷ []

-- and the facts of its tree
abbrev pub spot_facts : Grammar → List TokenForms → Spot → List Fact
spot_facts g s (AnEdge e) = []
spot_facts g s (AStep p (next.Item occ to)) = under_facts p.edge p.at to (category_at g p.edge occ)
spot_facts g s (AStep p next.End) = []
spot_facts g s (AWord e k) = word_facts (slice_get s e.from) e
spot_facts g s (APick at picks) = []

-- Law: the literals and the tree facts of a derivation are those of all that it has, in order.
abbrev pub LiteralsAreOfSpots : Type 0
LiteralsAreOfSpots =
    (g : Grammar) (s : List TokenForms) (d : Tree) (e : Edge) → Derives g s d e
    → literals g d e.from ≡ flat_map (spot_literals g) (spots_of d e.from)

abbrev pub TreeFactsAreOfSpots : Type 0
TreeFactsAreOfSpots =
    (g : Grammar) (s : List TokenForms) (d : Tree) (e : Edge) → Derives g s d e
    → tree_facts s d e.from ≡ flat_map (spot_facts g s) (spots_of d e.from)
