-- The way down a diagram to the least member.
use Rattle.std.specs.Prelude.{◌≡◌, ℕ, ◌+◌, ◌<◌, ◌≤◌, ◌⊎◌, true, false, List, length, slice_index}
use Rattle.lfg_context.specs.Cubes.{Pin, in_cubes, set_at}
use Rattle.lfg_context.specs.Tables.{Entry, cubes_at, IsTop}

-- the cubes do not read the choice
abbrev pub AreBlindTo : List (List Pin) → ℕ → Type 0
AreBlindTo x c = (a : ℕ → ℕ) (v : ℕ) → in_cubes x a ≡ in_cubes x (set_at a c v)

-- One step: the least alternative k of the choice c at which the number n has a member, and the number
-- m of what is left there; 0 and n itself where n does not test c.
pub record IsLeastStep (es : List Entry) (ar : ℕ → ℕ) (c n k m : ℕ) : Type 0 where
  pub number : m < length es + 2
  pub some : 1 ≤ m
  pub members : (a : ℕ → ℕ) → a c ≡ k → in_cubes (cubes_at es m) a ≡ in_cubes (cubes_at es n) a
  pub least : (a : ℕ → ℕ) → a c < k → in_cubes (cubes_at es n) a ≡ false
  pub later : (t : ℕ) → IsTop es m t → c + 1 ≤ t
  pub alternative : (k ≡ 0) ⊎ ((k < ar c) × (AreBlindTo (cubes_at es n) c → ⊥))

-- The steps so far: the list has the alternatives of the choices before c, and m is the number of what
-- is left of the set of n there.
pub record IsPath (es : List Entry) (ar : ℕ → ℕ) (n : ℕ) (xs : List ℕ) (c m : ℕ) : Type 0 where
  pub len : length xs ≡ c
  pub number : m < length es + 2
  pub some : 1 ≤ m
  pub members : (a : ℕ → ℕ) → ((e : ℕ) → e < c → a e ≡ slice_index xs e) → in_cubes (cubes_at es m) a ≡ in_cubes (cubes_at es n) a
  pub least : (a : ℕ → ℕ) → in_cubes (cubes_at es n) a ≡ true → (j : ℕ) → j < c → ((e : ℕ) → e < j → a e ≡ slice_index xs e) → slice_index xs j ≤ a j
  pub later : (t : ℕ) → IsTop es m t → c ≤ t
  pub alternatives : (j : ℕ) → j < c → (slice_index xs j ≡ 0) ⊎ ((slice_index xs j < ar j) × (AreBlindTo (cubes_at es n) j → ⊥))

-- the list is the least member of the set of n, of the choices before c
pub record IsLeastOf (es : List Entry) (ar : ℕ → ℕ) (n c : ℕ) (xs : List ℕ) : Type 0 where
  pub len : length xs ≡ c
  pub is_member : in_cubes (cubes_at es n) (λ e. slice_index xs e) ≡ true
  pub least : (a : ℕ → ℕ) → in_cubes (cubes_at es n) a ≡ true → (j : ℕ) → j < c → ((e : ℕ) → e < j → a e ≡ slice_index xs e) → slice_index xs j ≤ a j
  pub alternatives : (j : ℕ) → j < c → (slice_index xs j ≡ 0) ⊎ ((slice_index xs j < ar j) × (AreBlindTo (cubes_at es n) j → ⊥))
