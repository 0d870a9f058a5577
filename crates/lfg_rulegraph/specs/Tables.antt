-- Tables of a part of a right side: whether it spells the empty row, which of its items may begin and
-- end a row, and which may follow each other (positions of a regular expression, after Glushkov 1961).
use Rattle.std.specs.Prelude.{◌≡◌, ◌↔◌, ◌⊎◌, ℕ, ◌<◌, ◌≤◌, Bool, true, false, IsTrue, ◌&&◌, ◌||◌, if◌then◌else◌, List, [], ◌∷◌, ◌++◌, map}
use Rattle.std.specs.List.{flat_map}
use Rattle.lfg_rulegraph.specs.declared.part.Link.{Link}
use Rattle.lfg_model.specs.Lists.{In}

-- the link from item q to item p
abbrev pub link : ℕ → ℕ → Link
link q p = record { from = q; to = p }

-- what is known of a part: whether it spells the empty row, the items that may begin a row and those
-- that may end one, and the links from an item to one that may follow it
pub record Table : Type 0 where
  pub empty : Bool
  pub first : List ℕ
  pub last : List ℕ
  pub links : List Link

-- item p may follow item q
abbrev pub Linked : Table → ℕ → ℕ → Type 0
Linked t q p = In (link q p) t.links

-- the table of one item
abbrev pub one_item : ℕ → Table
one_item p = record { empty = false; first = p ∷ []; last = p ∷ []; links = [] }

-- the table of no item, which reads the empty row, if it is said to
abbrev pub no_item : Bool → Table
no_item empty = record { empty = empty; first = []; last = []; links = [] }

-- the items may follow q, one behind the other, and the last may end a row
abbrev pub Goes : Table → ℕ → List ℕ → Type 0
Goes t q [] = In q t.last
Goes t q (p ∷ rest) = Linked t q p × Goes t p rest

-- the table reads the row
abbrev pub Reads : Table → List ℕ → Type 0
Reads t [] = IsTrue t.empty
Reads t (p ∷ rest) = In p t.first × Goes t p rest

-- the item is behind the first `from` items and among the first `to`
pub record IsBetween (from to p : ℕ) : Type 0 where
  pub behind : from < p
  pub among : p ≤ to

-- the items of the table are behind the first `from` items and among the first `to`
pub record IsWithin (from to : ℕ) (t : Table) : Type 0 where
  pub first : (p : ℕ) → In p t.first → IsBetween from to p
  pub last : (p : ℕ) → In p t.last → IsBetween from to p
  pub before : (q p : ℕ) → Linked t q p → IsBetween from to q
  pub after : (q p : ℕ) → Linked t q p → IsBetween from to p

-- the table reads the rows with P, which have items behind the first `from` and among the first `to`
pub record IsTable (P : List ℕ → Type 0) (from to : ℕ) (t : Table) : Type 0 where
  pub within : IsWithin from to t
  pub exact : (w : List ℕ) → P w ↔ Reads t w

-- the links from each of these items to each of those
abbrev pub crossing : List ℕ → List ℕ → List Link
crossing lasts firsts = flat_map (λ q. map (link q) firsts) lasts

-- ---- tables made of tables

-- that of a part and another one behind it
pub record IsRow (a b t : Table) : Type 0 where
  pub empty : IsTrue t.empty ↔ (IsTrue a.empty × IsTrue b.empty)
  pub first : (p : ℕ) → In p t.first ↔ (In p a.first ⊎ (IsTrue a.empty × In p b.first))
  pub last : (p : ℕ) → In p t.last ↔ (In p b.last ⊎ (IsTrue b.empty × In p a.last))
  pub links : (q p : ℕ) → Linked t q p ↔ (Linked a q p ⊎ (Linked b q p ⊎ (In q a.last × In p b.first)))

-- that of a part or another one
pub record IsChoice (a b t : Table) : Type 0 where
  pub empty : IsTrue t.empty ↔ (IsTrue a.empty ⊎ IsTrue b.empty)
  pub first : (p : ℕ) → In p t.first ↔ (In p a.first ⊎ In p b.first)
  pub last : (p : ℕ) → In p t.last ↔ (In p a.last ⊎ In p b.last)
  pub links : (q p : ℕ) → Linked t q p ↔ (Linked a q p ⊎ Linked b q p)

-- that of a part that may be repeated: what may end it may be followed by what may begin it
pub record IsLoop (a t : Table) : Type 0 where
  pub first : t.first ≡ a.first
  pub last : t.last ≡ a.last
  pub links : (q p : ℕ) → Linked t q p ↔ (Linked a q p ⊎ (In q a.last × In p a.first))

-- the table of a part and another one behind it
abbrev pub row_of : Table → Table → Table
row_of a b = record {
  empty = a.empty && b.empty;
  first = if a.empty then a.first ++ b.first else a.first;
  last = if b.empty then b.last ++ a.last else b.last;
  links = (a.links ++ b.links) ++ crossing a.last b.first;
}

-- that of a part or another one
abbrev pub choice_of : Table → Table → Table
choice_of a b = record { empty = a.empty || b.empty; first = a.first ++ b.first; last = a.last ++ b.last; links = a.links ++ b.links }

-- that of a part one or more times
abbrev pub loop_of : Table → Table
loop_of a = record { empty = a.empty; first = a.first; last = a.last; links = a.links ++ crossing a.last a.first }

-- that of a part or the empty row
abbrev pub option_of : Table → Table
option_of a = record { empty = true; first = a.first; last = a.last; links = a.links }
