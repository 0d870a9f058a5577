-- The packed parse of a sentence: what a packed value says of the derivations that assignments of its
-- choices pick, and when there is none for its size.
use Rattle.std.specs.Prelude.{◌≡◌, ℕ, ◌+◌, ◌≤◌, true, List, [], map}
use Rattle.lfg_terms.specs.FactTexts.{IsListedFact}
use Rattle.lfg_terms.specs.declared.node.Fact.{Fact}
use Rattle.lfg_terms.specs.declared.grammar.Grammar.{Grammar}
use Rattle.lfg_terms.specs.declared.tree.TokenForms.{TokenForms}
use Rattle.lfg_context.specs.Sets.{Assignment, member}
use Rattle.lfg_context.specs.Telling.{Tells}
use Rattle.lfg_model.specs.declared.pair.Pair.{Pair}
use Rattle.lfg_model.specs.Lists.{In}
use Rattle.lfg_model.specs.Terms.{Tree}
use Rattle.lfg_model.specs.Readings.{Assigned, IsPairOf, IsReadings}
use Rattle.lfg_packed.specs.Assignments.{IsPickedBy}
use Rattle.lfg_packed.specs.Choices.{PlacedChoice, AreChoices, choice_of}
use Rattle.lfg_packed.specs.ParseCounts.{IsParseCount, IsParseAbove}
use Rattle.lfg_store.specs.Facts.{Entries, facts_of}
use Rattle.lfg_store.specs.Unpacking.{pair_at, AreUnpacked}
use Rattle.lfg_store.specs.declared.packed.Packed.{Packed}
use Rattle.lfg_parse.specs.declared.fault.ParseFault.{ParseFault}
use Rattle.lfg_parse.specs.declared.fault.ParseFault.TheVariants as fault

-- the assignment picks a derivation that the grammar assigns to the sentence
pub record PicksAssigned (g : Grammar) (s : List TokenForms) (cs : List PlacedChoice) (a : Assignment) : Type 0 where
  pub derivation : Tree
  pub picked : IsPickedBy g s cs a derivation
  pub assigned : Assigned g s derivation

-- The packed value is that of the sentence. Its choices are those of the sentence, in order; an
-- assignment is good just where it picks a derivation that the grammar assigns to the sentence; and the
-- pair at a good assignment is that of the derivation that it picks.
pub record Packs (g : Grammar) (s : List TokenForms) (p : Packed) : Type 0 where
  pub choices : List PlacedChoice
  pub are_choices : AreChoices g s choices
  pub space : p.space ≡ map choice_of choices
  pub good : Tells p.good (PicksAssigned g s choices)
  pub pair : (a : Assignment) (d : Tree) → member p.good a ≡ true → IsPickedBy g s choices a d → IsPairOf g s d (pair_at p a)

-- no fact of the entries has a new node, so that their texts need no table
pub record HaveNoNewNode (es : Entries) : Type 0 where
  pub each : (f : Fact) → In f (facts_of es) → IsListedFact [] f

-- What the packed value unpacks to are the readings of the sentence.
abbrev pub UnpacksToReadings : Grammar → List TokenForms → Packed → Type 0
UnpacksToReadings g s p = (pairs : List Pair) → AreUnpacked p pairs → IsReadings g s pairs

-- the parse count of the sentence is at most this number
pub record IsParseWithin (g : Grammar) (s : List TokenForms) (most : ℕ) : Type 0 where
  pub count : ℕ
  pub counted : IsParseCount g s count
  pub not_above : count ≤ most

-- The sentence is refused as too large only where its parse count is above the grammar's limit on
-- facts, with one more than the limit; want of memory may come at any sentence.
abbrev pub IsParseFault : Grammar → List TokenForms → ParseFault → Type 0
IsParseFault g s (fault.TooLarge count) = IsParseAbove g s g.maxfacts × (count ≡ g.maxfacts + 1)
IsParseFault g s fault.Memory = Unit {0}
