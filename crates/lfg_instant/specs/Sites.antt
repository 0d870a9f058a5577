-- The items and entries of a sentence, by their keys.
use Rattle.std.specs.Prelude.{◌≡◌, ◌==◌, ℕ, Some, List, length, slice_get, if◌then◌else◌}
use Rattle.lfg_terms.specs.declared.node.Edge.{Edge}
use Rattle.lfg_terms.specs.declared.literal.Site.{Site}
use Rattle.lfg_terms.specs.declared.literal.Site.TheVariants as site
use Rattle.lfg_terms.specs.declared.grammar.Grammar.{Grammar}
use Rattle.lfg_terms.specs.declared.tree.TokenForms.{TokenForms}
use Rattle.lfg_model.specs.Lists.{In, Lists}
use Rattle.lfg_instant.specs.declared.steps.Step.{Step}
use Rattle.lfg_instant.specs.declared.steps.Word.{Word}
use Rattle.lfg_packed.specs.declared.key.ChoiceKey.{ChoiceKey}
use Rattle.lfg_packed.specs.ChoicePoints.{BranchAt, key_of, key_cmp}
use Rattle.lfg_packed.specs.Choices.{IsSite}
use Rattle.lfg_packed.specs.Words.{AreEntries}

-- beside each edge stand the entries that whole derivations take there
pub record AreEntryLists (g : Grammar) (s : List TokenForms) (edges : List Edge) (lists : List (List ℕ)) : Type 0 where
  pub beside : length lists ≡ length edges
  pub each : (i : ℕ) (e : Edge) (ks : List ℕ) → slice_get edges i ≡ Some e → slice_get lists i ≡ Some ks → AreEntries g s e ks

-- the item or entry of a step and of a word
abbrev pub item_of : Step → Site
item_of step = site.Item step.point.edge step.occ step.point.at step.to

abbrev pub entry_of : Word → Site
entry_of word = site.Entry word.edge word.entry

-- the key of an item or entry is that of the first place of its annotation
abbrev pub site_key : Grammar → List TokenForms → Site → ChoiceKey
site_key g s at = key_of g s (BranchAt at 0)

-- the key is that of one of some items or entries
abbrev pub IsKeyOf : Grammar → List TokenForms → List Step → ChoiceKey → Type 0
IsKeyOf g s steps key = (step : Step) × In step steps × (key ≡ site_key g s (item_of step))

abbrev pub IsWordKeyOf : Grammar → List TokenForms → List Word → ChoiceKey → Type 0
IsWordKeyOf g s words key = (word : Word) × In word words × (key ≡ site_key g s (entry_of word))

-- the item or entry of a key
abbrev pub site_of_key : ChoiceKey → Site
site_of_key k = if k.rank == 2 then site.Item k.edge k.item k.from k.to else site.Entry k.edge k.item

-- the keys of all items and entries of whole derivations, in order, each once
abbrev pub AreSiteKeys : Grammar → List TokenForms → List ChoiceKey → Type 0
AreSiteKeys g s keys = Lists key_cmp (λ k. (at : Site) × IsSite g s at × (k ≡ site_key g s at)) keys
