-- The chart of a sentence: the edges, points and ways to go on of its whole derivations, and the
-- laws that there is one chart at most and that it lists them all.
use Rattle.std.specs.Prelude.{◌≡◌, List, [], ◌∷◌, map, cond}
use Rattle.std.specs.Ordering.{eq_by_cmp}
use Rattle.lfg_terms.specs.Order.{edge_cmp}
use Rattle.lfg_terms.specs.declared.node.Edge.{Edge}
use Rattle.lfg_terms.specs.declared.grammar.Grammar.{Grammar}
use Rattle.lfg_terms.specs.declared.tree.TokenForms.{TokenForms}
use Rattle.lfg_model.specs.declared.point.Point.{Point}
use Rattle.lfg_model.specs.declared.point.Next.{Next}
use Rattle.lfg_model.specs.Lists.{In, Lists}
use Rattle.lfg_model.specs.Points.{point_cmp, next_cmp}
use Rattle.lfg_model.specs.Spots.{AnEdge, AStep, Stands}

-- a point and the ways to go on there
abbrev pub Fork : Type 0
Fork = Point × List Next

-- the points of some forks
abbrev pub points_of : List Fork → List Point
points_of forks = map (λ f. f.0) forks

-- the ways to go on at a point, none where no fork is there
abbrev pub nexts_at : List Fork → Point → List Next
nexts_at [] p = []
nexts_at (fork ∷ rest) p = cond (eq_by_cmp point_cmp fork.0 p) fork.1 (nexts_at rest p)

-- Whole derivations of the sentence go on at the point: some has a step there.
abbrev pub IsPoint : Grammar → List TokenForms → Point → Type 0
IsPoint g s p = (n : Next) × Stands g s (AStep p n)

-- The edges are all those of whole derivations of the sentence. So are the points, and each stands
-- with all ways to go on there. All lists are in order and have each thing once.
pub record IsChart (g : Grammar) (s : List TokenForms) (edges : List Edge) (forks : List Fork) : Type 0 where
  pub all_edges : Lists edge_cmp (λ e. Stands g s (AnEdge e)) edges
  pub all_points : Lists point_cmp (IsPoint g s) (points_of forks)
  pub all_nexts : (fork : Fork) → In fork forks → Lists next_cmp (λ n. Stands g s (AStep fork.0 n)) fork.1

-- Law: a sentence has one chart at most.
abbrev pub OneChart : Type 0
OneChart =
    (g : Grammar) (s : List TokenForms) (edges edges' : List Edge) (forks forks' : List Fork) → IsChart g s edges forks → IsChart g s edges' forks'
    → (edges ≡ edges') × (forks ≡ forks')

-- Law: at each point a chart has all ways in which whole derivations go on there, and none at any
-- other.
abbrev pub ChartHasAllNexts : Type 0
ChartHasAllNexts =
    (g : Grammar) (s : List TokenForms) (edges : List Edge) (forks : List Fork) → IsChart g s edges forks
    → (p : Point) → Lists next_cmp (λ n. Stands g s (AStep p n)) (nexts_at forks p)
