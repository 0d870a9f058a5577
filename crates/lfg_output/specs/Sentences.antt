-- The sentences of a text, and what a grammar gives each of them.
use Rattle.std.specs.Prelude.{◌≡◌, ℕ, suc, ◌<◌, ◌≤◌, ◌==◌, not, List, map, filter, length}
use Rattle.std.specs.List.{flat_map, slice_split}
use Rattle.std.specs.Str.Lines.{strip_carriage_return}
use Rattle.lfg_terms.specs.declared.grammar.Grammar.{Grammar}
use Rattle.lfg_terms.specs.declared.tree.TokenForms.{TokenForms}
use Rattle.lfg_model.specs.declared.pair.Pair.{Pair}
use Rattle.lfg_model.specs.PairTexts.{pair_text}
use Rattle.lfg_model.specs.Readings.{IsReadings}
use Rattle.lfg_packed.specs.ParseCounts.{IsParseCount, IsParseAbove}
use Rattle.lfg_token.specs.Words.{tokens}
use Rattle.lfg_output.specs.declared.status.StageName.TheVariants.{Parse}
use Rattle.lfg_output.specs.declared.status.Status.{Status}
use Rattle.lfg_output.specs.declared.status.Status.TheVariants.{TooLong, TooLarge}

-- the lines of a text: what stands between its line feeds, each without a carriage return at its end
abbrev pub lines : List ℕ → List (List ℕ)
lines text = map strip_carriage_return (slice_split (λ b. b == 10) text)

-- the sentences of a text: its lines with a token
abbrev pub sentences_of : List ℕ → List (List ℕ)
sentences_of text = filter (λ line. not (length (tokens line) == 0)) (lines text)

-- the most tokens of a sentence
abbrev pub most_tokens : ℕ
most_tokens = 64

-- The sentence keeps to the limits: it has 64 tokens at most, and its parse count is not above the
-- grammar's limit on facts.
pub record IsWithin (g : Grammar) (line : List ℕ) : Type 0 where
  pub few : length (tokens line) ≤ most_tokens
  pub count : ℕ
  pub counted : IsParseCount g (tokens line) count
  pub not_above : count ≤ g.maxfacts

-- what `readings` writes of a sentence that keeps to the limits: the texts of its readings, in their
-- order
pub record AreReadings (g : Grammar) (line body : List ℕ) : Type 0 where
  pub within : IsWithin g line
  pub pairs : List Pair
  pub readings : IsReadings g (tokens line) pairs
  pub is : body ≡ flat_map pair_text pairs

-- The status of a sentence that does not keep to the limits, by its number, counted from 1.
pub data IsRefused (g : Grammar) (number : ℕ) (line : List ℕ) : Status → Type 0 where
  too_long : most_tokens < length (tokens line) → IsRefused g number line (TooLong number (length (tokens line)))
  too_large : length (tokens line) ≤ most_tokens → IsParseAbove g (tokens line) g.maxfacts → IsRefused g number line (TooLarge number Parse (suc g.maxfacts))

-- ---- laws

-- Law: a sentence has one parse count.
abbrev pub OneParseCount : Type 0
OneParseCount = (g : Grammar) (s : List TokenForms) (m n : ℕ) → IsParseCount g s m → IsParseCount g s n → m ≡ n
