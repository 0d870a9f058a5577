-- Equal nodes: the least equality that equations force (the minimal solution of Kaplan and
-- Bresnan 1982).
use Rattle.std.specs.Prelude.{List}
use Rattle.lfg_model.specs.Lists.{In}

-- Two nodes are equal by these nodes, given pairs and arcs; an arc (x, a, t) leads from x by the
-- attribute a to t. Each node is equal to itself. The nodes of a given pair are equal, both ways.
-- What is equal to one node is equal. Where x and y are equal and have arcs by one attribute, the
-- targets are equal. Nothing else is.
pub data Equal {X A : Type 0} (nodes : List X) (given : List (X × X)) (arcs : List (X × A × X)) : X → X → Type 0 where
  itself : {x : X} → In x nodes → Equal nodes given arcs x x
  stated : {x y : X} → In (x, y) given → Equal nodes given arcs x y
  turned : {x y : X} → In (x, y) given → Equal nodes given arcs y x
  joined : {x y z : X} → Equal nodes given arcs x y → Equal nodes given arcs y z → Equal nodes given arcs x z
  along : {x y t u : X} {a : A} → Equal nodes given arcs x y → In (x, a, t) arcs → In (y, a, u) arcs → Equal nodes given arcs t u
