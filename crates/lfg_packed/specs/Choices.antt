-- The choices of a sentence: the places at which its whole derivations part, assigned or not.
use Rattle.std.specs.Prelude.{◌≡◌, ℕ, ◌≤◌, Some, None, List, length, map, slice_get}
use Rattle.std.specs.Ordering.{on}
use Rattle.lfg_terms.specs.declared.literal.Site.{Site}
use Rattle.lfg_terms.specs.declared.literal.Site.TheVariants as site
use Rattle.lfg_terms.specs.declared.grammar.Grammar.{Grammar}
use Rattle.lfg_terms.specs.declared.tree.TokenForms.{TokenForms}
use Rattle.lfg_terms.specs.declared.choice.Choice.{Choice}
use Rattle.lfg_model.specs.declared.point.Point.{Point}
use Rattle.lfg_model.specs.declared.point.Next.{Next}
use Rattle.lfg_model.specs.Lists.{Lists}
use Rattle.lfg_model.specs.Terms.{Annotation}
use Rattle.lfg_model.specs.Derive.{rule_of, item_at}
use Rattle.lfg_model.specs.Trees.{items_of, item_annotation, entry_annotation}
use Rattle.lfg_model.specs.Places.{places}
use Rattle.lfg_model.specs.Points.{next_cmp}
use Rattle.lfg_model.specs.Spots.{AStep, APick, Stands}
use Rattle.lfg_packed.specs.Words.{AreEntries}
use Rattle.lfg_packed.specs.ChoicePoints.{ChoicePoint, NextAt, EntryAt, BranchAt, kind_of, choice_cmp}

-- some whole derivation has the item or the entry
abbrev pub IsSite : Grammar → List TokenForms → Site → Type 0
IsSite g s at = (picks : List ℕ) × Stands g s (APick at picks)

-- its annotation
abbrev pub annotation_at : Grammar → Site → Annotation
annotation_at g (site.Item e occ at to) = item_annotation (item_at (items_of (rule_of g e.cat)) occ)
annotation_at g (site.Entry e k) = entry_annotation (slice_get g.lexicon k)

-- the ways in which whole derivations go on at the point, in order, each once
abbrev pub AreNexts : Grammar → List TokenForms → Point → List Next → Type 0
AreNexts g s p ns = Lists next_cmp (λ n. Stands g s (AStep p n)) ns

-- How many alternatives there are: all ways to go on, and all entries, that whole derivations take;
-- of an annotation all that are written.
abbrev pub HasAlternatives : Grammar → List TokenForms → ChoicePoint → ℕ → Type 0
HasAlternatives g s (NextAt p) n = (ns : List Next) × AreNexts g s p ns × (n ≡ length ns)
HasAlternatives g s (EntryAt e) n = (ks : List ℕ) × AreEntries g s e ks × (n ≡ length ks)
HasAlternatives g s (BranchAt at place) n = IsSite g s at × (slice_get (places (annotation_at g at)) place ≡ Some n)

-- a choice, with the place at which derivations part
pub record PlacedChoice : Type 0 where
  pub at : ChoicePoint
  pub alternatives : ℕ

-- as it stands in the list of choices
abbrev pub choice_of : PlacedChoice → Choice
choice_of c = record { kind = kind_of c.at; alternatives = c.alternatives }

-- The choices of the sentence: each place with two alternatives or more, in order, each once.
abbrev pub AreChoices : Grammar → List TokenForms → List PlacedChoice → Type 0
AreChoices g s cs = Lists (on (λ c. c.at) (choice_cmp g s)) (λ c. HasAlternatives g s c.at c.alternatives × (2 ≤ c.alternatives)) cs
