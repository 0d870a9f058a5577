-- The sections that are written of sentences.
use Rattle.std.specs.Prelude.{◌≡◌, ℕ, suc, List, [], ◌∷◌, ◌++◌, take, length, decimal, codes}
use Rattle.std.specs.List.{flat_map}

-- the heading of a sentence's section: its number, counted from 1, and its text
abbrev pub heading : ℕ → List ℕ → List ℕ
heading number line = codes "# " ++ decimal number ++ 32 ∷ line ++ 10 ∷ []

-- a section: a heading, what is written of the sentence, and an empty line
abbrev pub section : ℕ → List ℕ → List ℕ → List ℕ
section number line body = heading number line ++ body ++ 10 ∷ []

-- The sections of sentences, numbered from this number on, by what is written of each.
pub data AreSections (IsBody : List ℕ → List ℕ → Type 0) : ℕ → List (List ℕ) → List (List ℕ) → Type 0 where
  none : {number : ℕ} → AreSections IsBody number [] []
  more : {number : ℕ} {line body : List ℕ} {lines sections : List (List ℕ)} → IsBody line body → AreSections IsBody (suc number) lines sections
      → AreSections IsBody number (line ∷ lines) (section number line body ∷ sections)

-- the bytes of pieces, one behind another
abbrev pub joined : List (List ℕ) → List ℕ
joined = flat_map (λ piece. piece)

-- these are the whole sections of some sentences, from the first on, and behind these is the next one
pub record SectionsBefore (IsBody : List ℕ → List ℕ → Type 0) (sentences : List (List ℕ)) (next : List ℕ) (sections : List (List ℕ)) : Type 0 where
  pub written : List (List ℕ)
  pub left : List (List ℕ)
  pub split : sentences ≡ written ++ next ∷ left
  pub are : AreSections IsBody 1 written sections

-- the bytes are the whole sections of some sentences, from the first on
pub record WholeSections (IsBody : List ℕ → List ℕ → Type 0) (sentences : List (List ℕ)) (bytes : List ℕ) : Type 0 where
  pub written : List (List ℕ)
  pub left : List (List ℕ)
  pub split : sentences ≡ written ++ left
  pub sections : List (List ℕ)
  pub are : AreSections IsBody 1 written sections
  pub is : bytes ≡ joined sections

-- the same, and behind them the beginning of the next sentence's section
pub record CutSections (IsBody : List ℕ → List ℕ → Type 0) (sentences : List (List ℕ)) (bytes : List ℕ) : Type 0 where
  pub next : List ℕ
  pub sections : List (List ℕ)
  pub before : SectionsBefore IsBody sentences next sections
  pub body : List ℕ
  pub is_body : IsBody next body
  pub count : ℕ
  pub is : bytes ≡ joined sections ++ take count (section (suc (length before.written)) next body)
