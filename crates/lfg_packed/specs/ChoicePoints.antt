-- Where derivations of a sentence part, and the order of these places.
use Rattle.std.specs.Prelude.{ℕ, List}
use Rattle.std.specs.declared.cmp.Ordering.{Ordering}
use Rattle.std.specs.Ordering.{nat_cmp, on, then_cmp}
use Rattle.lfg_terms.specs.Order.{edge_cmp}
use Rattle.lfg_terms.specs.declared.node.Edge.{Edge}
use Rattle.lfg_terms.specs.declared.literal.Site.{Site}
use Rattle.lfg_terms.specs.declared.literal.Site.TheVariants as site
use Rattle.lfg_terms.specs.declared.grammar.Grammar.{Grammar}
use Rattle.lfg_terms.specs.declared.tree.TokenForms.{TokenForms}
use Rattle.lfg_terms.specs.declared.choice.ChoiceKind.{ChoiceKind}
use Rattle.lfg_terms.specs.declared.choice.ChoiceKind.TheVariants as kind
use Rattle.lfg_model.specs.declared.point.Point.{Point}
use Rattle.lfg_packed.specs.declared.key.ChoiceKey.{ChoiceKey}
use Rattle.lfg_packed.specs.Words.{word_place}

-- At a point the way to go on is open, at a lexical edge its entry, and at an item or entry each
-- numbered place of its annotation, counted from 0.
pub data ChoicePoint : Type 0 where
  NextAt : Point → ChoicePoint
  EntryAt : Edge → ChoicePoint
  BranchAt : Site → (place : ℕ) → ChoicePoint

-- what the choice is between
abbrev pub kind_of : ChoicePoint → ChoiceKind
kind_of (NextAt p) = kind.Next
kind_of (EntryAt e) = kind.Entry
kind_of (BranchAt at place) = kind.Branch

-- keys are compared part by part
abbrev pub key_cmp : ChoiceKey → ChoiceKey → Ordering
key_cmp =
    then_cmp (then_cmp (then_cmp (then_cmp (then_cmp
    (on (λ k. k.edge) edge_cmp) (on (λ k. k.rank) nat_cmp)) (on (λ k. k.from) nat_cmp)) (on (λ k. k.to) nat_cmp))
    (on (λ k. k.item) nat_cmp)) (on (λ k. k.place) nat_cmp)

-- Choices are ordered by their edge, then the ways to go on before the entry before the places of
-- annotations. The points of an edge are ordered by where they are, then by the item read last; the
-- places of items by the item's start, end and number, then by their own number; those of entries by
-- the entry's place among the edge's, then by their own number (this project's own).
abbrev pub key_of : Grammar → List TokenForms → ChoicePoint → ChoiceKey
key_of g s (NextAt p) = record { edge = p.edge; rank = 0; from = p.at; to = 0; item = p.occ; place = 0 }
key_of g s (EntryAt e) = record { edge = e; rank = 1; from = 0; to = 0; item = 0; place = 0 }
key_of g s (BranchAt (site.Item e occ at to) place) = record { edge = e; rank = 2; from = at; to = to; item = occ; place = place }
key_of g s (BranchAt (site.Entry e k) place) = record { edge = e; rank = 3; from = word_place g s e k; to = 0; item = k; place = place }

abbrev pub choice_cmp : Grammar → List TokenForms → ChoicePoint → ChoicePoint → Ordering
choice_cmp g s = on (key_of g s) key_cmp
