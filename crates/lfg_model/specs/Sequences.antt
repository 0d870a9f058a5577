-- Lists that are made of other lists, one after the other.
use Rattle.std.specs.Prelude.{◌≡◌, List, [], ◌++◌}

-- w is two lists joined, of which the front has P and the back has Q
pub record Joins {X : Type 0} (P Q : List X → Type 0) (w : List X) : Type 0 where
  pub front : List X
  pub back : List X
  pub is : w ≡ front ++ back
  pub first : P front
  pub second : Q back

-- w is any number of lists joined, each of which has P
pub data Repeats {X : Type 0} (P : List X → Type 0) : List X → Type 0 where
  no_more : Repeats P []
  once_more : {u v w : List X} → P u → Repeats P v → w ≡ u ++ v → Repeats P w
