-- Numbers of texts by first appearance.
use Rattle.std.specs.Prelude.{ℕ, Bool, ◌==◌, if◌then◌else◌, List, [], ◌∷◌, ◌++◌}
use Rattle.std.specs.List.{list_any, position_or_len}
use Rattle.std.specs.Cmp.Lexicographic.{pointwise}

-- the two texts have the same bytes
abbrev pub same : List ℕ → List ℕ → Bool
same = pointwise ◌==◌

-- the texts, with this one at their end where it is new
abbrev pub with_text : List (List ℕ) → List ℕ → List (List ℕ)
with_text ts t = if list_any (same t) ts then ts else ts ++ t ∷ []

-- the number of texts before the first that is this one; all of them where it is new
abbrev pub number_of : List (List ℕ) → List ℕ → ℕ
number_of ts t = position_or_len (same t) ts
