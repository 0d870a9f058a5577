-- The literals of items and entries, by their keys.
use Rattle.std.specs.Prelude.{◌≡◌, ℕ, List, [], ◌∷◌, ◌++◌, if◌then◌else◌}
use Rattle.lfg_terms.specs.declared.literal.Literal.{Literal}
use Rattle.lfg_terms.specs.declared.literal.Site.{Site}
use Rattle.lfg_terms.specs.declared.grammar.Grammar.{Grammar}
use Rattle.lfg_terms.specs.declared.tree.TokenForms.{TokenForms}
use Rattle.lfg_context.specs.Seen.{Set}
use Rattle.lfg_context.specs.Sets.{Assignment, member}
use Rattle.lfg_packed.specs.declared.key.ChoiceKey.{ChoiceKey}
use Rattle.lfg_packed.specs.Assignments.{picks_at}
use Rattle.lfg_packed.specs.Choices.{IsSite, annotation_at, PlacedChoice}
use Rattle.lfg_packed.specs.Sizes.{literal_size}
use Rattle.lfg_packed.specs.SpotFacts.{site_literals}
use Rattle.lfg_instant.specs.Sites.{site_key, site_of_key}

-- the key is that of an item or entry of whole derivations
abbrev pub IsSiteKey : Grammar → List TokenForms → ChoiceKey → Type 0
IsSiteKey g s key = (at : Site) × IsSite g s at × (key ≡ site_key g s at)

-- the literals of its annotation by the picks of an assignment
abbrev pub key_literals : Grammar → List TokenForms → List PlacedChoice → Assignment → ChoiceKey → List Literal
key_literals g s cs a key = site_literals g (site_of_key key) (picks_at g s cs a (site_of_key key))

-- how many literals its annotation gives over all picks
abbrev pub key_size : Grammar → ChoiceKey → ℕ
key_size g key = literal_size (annotation_at g (site_of_key key))

-- what is listed at each thing, or nothing where its set has not the assignment
abbrev pub listed_of : {X Y : Type 0} → (X → List Y) → List X → List Set → Assignment → List Y
listed_of f [] sets a = []
listed_of f (x ∷ xs) [] a = []
listed_of f (x ∷ xs) (set ∷ sets) a = (if member set a then f x else []) ++ listed_of f xs sets a
