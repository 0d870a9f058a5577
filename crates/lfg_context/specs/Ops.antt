-- Operations on the sets of numbers.
use Rattle.std.specs.Prelude.{◌≡◌, ℕ, ◌+◌, ◌<◌, ◌≤◌, Bool, true, false, ◌&&◌, ◌||◌, not, List, length, slice_index_or, All, min, ◌⊎◌}
use Rattle.lfg_context.specs.declared.op.Op.{Op}
use Rattle.lfg_context.specs.declared.op.Op.TheVariants.{And, Or, Without}
use Rattle.lfg_context.specs.Tables.{Entry}
use Rattle.lfg_context.specs.Cubes.{Pin, taken, in_cubes}
use Rattle.lfg_context.specs.declared.diagram.Work.{Work}
use Rattle.lfg_context.specs.Tables.{cubes_at, IsProperFrom, IsTestOf, IsTop}

-- an operation at one assignment
abbrev pub op_of : Op → Bool → Bool → Bool
op_of And x y = x && y
op_of Or x y = x || y
op_of Without x y = x && not y

-- The number n stands for what the operation makes of the sets of i and j, whatever the sets are, as
-- 0 stands for the empty and 1 for the full one.
pub record IsTrivial (op : Op) (i j n : ℕ) : Type 0 where
  pub one_of : (n ≡ i) ⊎ ((n ≡ j) ⊎ (n < 2))
  pub members : (f : ℕ → Bool) → f 0 ≡ false → f 1 ≡ true → f n ≡ op_of op (f i) (f j)

-- the number n stands for what the work gives
pub record IsResult (es : List Entry) (w : Work) (n : ℕ) : Type 0 where
  pub left : w.left < length es + 2
  pub right : w.right < length es + 2
  pub number : n < length es + 2
  pub members : (a : ℕ → ℕ) → in_cubes (cubes_at es n) a ≡ op_of w.op (in_cubes (cubes_at es w.left) a) (in_cubes (cubes_at es w.right) a)

-- what is remembered is right
pub record AreResults (es : List Entry) (rs : List (Work × ℕ)) : Type 0 where
  pub each : All (λ r. IsResult es r.0 r.1) rs

-- the number stands for what the operation makes of two sets
pub record IsCombined (es fs : List Entry) (ar : ℕ → ℕ) (d : ℕ) (op : Op) (i j n : ℕ) : Type 0 where
  pub number : n < length fs + 2
  pub members : (a : ℕ → ℕ) → in_cubes (cubes_at fs n) a ≡ op_of op (in_cubes (cubes_at es i) a) (in_cubes (cubes_at es j) a)
  pub proper : (c : ℕ) → c ≤ d → IsProperFrom ar d c (cubes_at es i) → IsProperFrom ar d c (cubes_at es j) → IsProperFrom ar d c (cubes_at fs n)

-- the children so far are what the operation makes of the children
pub record AreCombined (es fs : List Entry) (ar : ℕ → ℕ) (d c : ℕ) (op : Op) (i j : ℕ) (ks : List ℕ) : Type 0 where
  pub below : All (λ k. k < length fs + 2) ks
  pub members : (k : ℕ) → k < length ks → (a : ℕ → ℕ) → taken a c (ar c) ≡ k
      → in_cubes (cubes_at fs (slice_index_or ks k 0)) a ≡ op_of op (in_cubes (cubes_at es i) a) (in_cubes (cubes_at es j) a)
  pub proper : (k : ℕ) → k < length ks → IsProperFrom ar d (c + 1) (cubes_at fs (slice_index_or ks k 0))

-- the number's cubes test the choice
pub record TestsAt (es : List Entry) (ar : ℕ → ℕ) (d t n : ℕ) : Type 0 where
  pub kids : List (List (List Pin))
  pub test : IsTestOf ar d t (cubes_at es n) kids
  pub within : t < d

-- the first choice that one of two numbers tests
pub record IsFirst (es : List Entry) (ar : ℕ → ℕ) (d i j c : ℕ) : Type 0 where
  pub s : ℕ
  pub t : ℕ
  pub i_top : IsTop es i s
  pub j_top : IsTop es j t
  pub first : c ≡ min s t
  pub tests : TestsAt es ar d c i ⊎ TestsAt es ar d c j
  pub within : c < d
