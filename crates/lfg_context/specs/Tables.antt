-- the table of nodes: node i has the number i + 2, and 0 and 1 are the empty and the full set
use Rattle.std.specs.Prelude.{◌≡◌, ℕ, ◌+◌, ◌-◌, ◌<◌, ◌≤◌, List, [], ◌∷◌, length, map, slice_index_or, All, ◌==◌, if◌then◌else◌}
use Rattle.lfg_context.specs.Cubes.{Pin}
use Rattle.lfg_context.specs.declared.diagram.Test.{Test}
use Rattle.lfg_context.specs.Seen.{Set}
use Rattle.lfg_context.specs.Cubes.{taken, in_cubes, AllOf, IsTest, IsProper}

-- a node: what it tests, and its set
abbrev pub Entry : Type 0
Entry = Test × Set

abbrev pub all_cubes : List Entry → List (List (List Pin))
all_cubes es = [] ∷ ([] ∷ []) ∷ map (λ e. e.1.1) es

-- the cubes of a number
abbrev pub cubes_at : List Entry → ℕ → List (List Pin)
cubes_at es n = slice_index_or (all_cubes es) n []

abbrev pub arity_in : List ℕ → ℕ → ℕ
arity_in arities c = slice_index_or arities c 0

-- the node i of the table, of sets of the choices below d
pub record IsNode (es : List Entry) (ar : ℕ → ℕ) (d i : ℕ) (e : Entry) : Type 0 where
  pub number : e.1.0 ≡ i + 2
  pub choice : e.0.choice < d
  pub below : All (λ k. k < i + 2) e.0.children.items
  pub test : IsTest ar (IsProper ar (d - (e.0.choice + 1)) (e.0.choice + 1)) e.0.choice e.1.1 (map (cubes_at es) e.0.children.items)

pub record IsTable (es : List Entry) (ar : ℕ → ℕ) (d : ℕ) : Type 0 where
  pub nodes : (i : ℕ) (e : Entry) → i < length es → e ≡ slice_index_or es i e → IsNode es ar d i e
  pub apart : (i j : ℕ) → i < length es + 2 → j < length es + 2 → cubes_at es i ≡ cubes_at es j → i ≡ j

-- a later table has the earlier numbers' cubes
pub record Extends (es fs : List Entry) : Type 0 where
  pub longer : length es ≤ length fs
  pub kept : (n : ℕ) → n < length es + 2 → cubes_at fs n ≡ cubes_at es n
  pub entries : (i : ℕ) (e : Entry) → i < length es → e ≡ slice_index_or es i e → e ≡ slice_index_or fs i e

-- proper for the choices from n on, below d
abbrev pub IsProperFrom : (ℕ → ℕ) → ℕ → ℕ → List (List Pin) → Type 0
IsProperFrom ar d n x = IsProper ar (d - n) n x

-- the number n stands for the set that takes the child ks[k] at the alternative k of the choice c
pub record IsChoice (es fs : List Entry) (ar : ℕ → ℕ) (d c : ℕ) (ks : List ℕ) (n : ℕ) : Type 0 where
  pub number : n < length fs + 2
  pub members : (a : ℕ → ℕ) → in_cubes (cubes_at fs n) a ≡ in_cubes (cubes_at es (slice_index_or ks (taken a c (ar c)) 0)) a
  pub proper : IsProperFrom ar d c (cubes_at fs n)

-- what a choice asks of its children
pub record AreChildren (es : List Entry) (ar : ℕ → ℕ) (d c : ℕ) (ks : List ℕ) : Type 0 where
  pub choice : c < d
  pub two : 2 ≤ ar c
  pub len : length ks ≡ ar c
  pub below : All (λ k. k < length es + 2) ks
  pub proper : AllOf (IsProperFrom ar d (c + 1)) (map (cubes_at es) ks)

-- the choice that a number tests first: none for the two sets without a node
pub record IsTop (es : List Entry) (n t : ℕ) : Type 0 where
  pub none : n < 2 → t ≡ 4294967295
  pub node : 2 ≤ n → (e : Entry) → e ≡ slice_index_or es (n - 2) e → t ≡ e.0.choice

-- the number of the child at k: the number itself where it doesn't test the choice
pub record IsChild (es : List Entry) (ar : ℕ → ℕ) (d c k t n m : ℕ) : Type 0 where
  pub number : m < length es + 2
  pub members : (a : ℕ → ℕ) → taken a c (ar c) ≡ k → in_cubes (cubes_at es m) a ≡ in_cubes (cubes_at es n) a
  pub proper : c < d → IsProperFrom ar d (c + 1) (cubes_at es m)
  pub no_greater : m ≤ n
  pub less : t ≡ c → m < n

-- a test of the choice c
abbrev pub IsTestOf : (ℕ → ℕ) → ℕ → ℕ → List (List Pin) → List (List (List Pin)) → Type 0
IsTestOf ar d c x ks = IsTest ar (IsProperFrom ar d (c + 1)) c x ks

-- the numbers of one alternative: 1 there, and 0 elsewhere
pub record PicksOne (ks : List ℕ) (n k : ℕ) : Type 0 where
  pub len : length ks ≡ n
  pub here : (j : ℕ) → j < n → slice_index_or ks j 0 ≡ (if (j == k) then 1 else 0)
