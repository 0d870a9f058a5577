-- Law: the literals of the derivation that an assignment picks, and the facts of its tree.
use Rattle.std.specs.Prelude.{◌≡◌, ◌↔◌, ℕ, List, [], ◌∷◌}
use Rattle.std.specs.List.{flat_map}
use Rattle.std.specs.List.Sorted.{IsPermutation}
use Rattle.lfg_terms.specs.declared.node.Edge.{Edge}
use Rattle.lfg_terms.specs.declared.literal.Site.{Site}
use Rattle.lfg_terms.specs.declared.grammar.Grammar.{Grammar}
use Rattle.lfg_terms.specs.declared.tree.TokenForms.{TokenForms}
use Rattle.lfg_context.specs.Sets.{Assignment}
use Rattle.lfg_model.specs.Lists.{In, Once}
use Rattle.lfg_model.specs.Loaded.{Loaded}
use Rattle.lfg_model.specs.Derive.{Derives}
use Rattle.lfg_model.specs.Spots.{Spot, AnEdge, AStep, AWord, APick, spots_of}
use Rattle.lfg_model.specs.Terms.{Tree}
use Rattle.lfg_model.specs.Trees.{literals}
use Rattle.lfg_packed.specs.Choices.{PlacedChoice}
use Rattle.lfg_packed.specs.Assignments.{picks_at, IsPickedBy}
use Rattle.lfg_packed.specs.SpotFacts.{site_literals}

-- the item or entry of a list of picks
abbrev pub spot_sites : Spot → List Site
spot_sites (AnEdge e) = []
spot_sites (AStep p n) = []
spot_sites (AWord e k) = []
spot_sites (APick at picks) = at ∷ []

-- the items and entries among the things that a derivation has, in order
abbrev pub sites_in : List Spot → List Site
sites_in xs = flat_map spot_sites xs

-- Law: no derivation has an item or an entry twice.
abbrev pub NoSiteTwice : Type 0
NoSiteTwice = (g : Grammar) (s : List TokenForms) (d : Tree) (e : Edge) → Loaded g → Derives g s d e → Once (sites_in (spots_of d e.from))

-- Law: the literals of the derivation that an assignment picks are those of its items and entries by
-- the assignment's picks, each as often, in whatever order the items and entries are taken.
abbrev pub LiteralsByPicks : Type 0
LiteralsByPicks =
    (g : Grammar) (s : List TokenForms) (cs : List PlacedChoice) (a : Assignment) (d : Tree) → Loaded g → IsPickedBy g s cs a d
    → (sites : List Site) → Once sites → ((at : Site) → In at sites ↔ In at (sites_in (spots_of d 0)))
    → IsPermutation (flat_map (λ at. site_literals g at (picks_at g s cs a at)) sites) (literals g d 0)
