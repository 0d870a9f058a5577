-- The derivation that an assignment picks: at each place at which derivations part it takes the
-- alternative of the assignment, or the only one.
use Rattle.std.specs.Prelude.{◌≡◌, ℕ, ◌+◌, cond, Some, List, [], ◌∷◌, slice_get}
use Rattle.std.specs.Ordering.{eq_by_cmp}
use Rattle.lfg_terms.specs.declared.literal.Site.{Site}
use Rattle.lfg_terms.specs.declared.grammar.Grammar.{Grammar}
use Rattle.lfg_terms.specs.declared.tree.TokenForms.{TokenForms}
use Rattle.lfg_context.specs.Cubes.{taken}
use Rattle.lfg_context.specs.Sets.{Assignment}
use Rattle.lfg_model.specs.declared.point.Next.{Next}
use Rattle.lfg_model.specs.Lists.{In}
use Rattle.lfg_model.specs.Places.{places}
use Rattle.lfg_model.specs.Terms.{Tree}
use Rattle.lfg_model.specs.Derive.{Whole}
use Rattle.lfg_model.specs.Spots.{Spot, AnEdge, AStep, AWord, APick, spots_of}
use Rattle.lfg_packed.specs.Words.{AreEntries}
use Rattle.lfg_packed.specs.ChoicePoints.{ChoicePoint, NextAt, EntryAt, BranchAt, choice_cmp}
use Rattle.lfg_packed.specs.Choices.{PlacedChoice, AreNexts, annotation_at}

-- What the assignment takes at a place, by the choices from the k-th on: the alternative of the
-- choice that stands there, and the first one where no choice does.
abbrev pub taken_from : Grammar → List TokenForms → Assignment → ℕ → List PlacedChoice → ChoicePoint → ℕ
taken_from g s a k [] x = 0
taken_from g s a k (c ∷ cs) x = cond (eq_by_cmp (choice_cmp g s) c.at x) (taken a k c.alternatives) (taken_from g s a (k + 1) cs x)

-- the alternative that the assignment takes at a place, counted from 0
abbrev pub alternative_at : Grammar → List TokenForms → List PlacedChoice → Assignment → ChoicePoint → ℕ
alternative_at g s cs a x = taken_from g s a 0 cs x

-- what is taken at the numbered places of an annotation, from the k-th on
abbrev pub picks_from : (ℕ → ℕ) → ℕ → List ℕ → List ℕ
picks_from f k [] = []
picks_from f k (n ∷ ns) = f k ∷ picks_from f (k + 1) ns

-- the picks that the assignment makes for the annotation of an item or entry
abbrev pub picks_at : Grammar → List TokenForms → List PlacedChoice → Assignment → Site → List ℕ
picks_at g s cs a at = picks_from (λ k. alternative_at g s cs a (BranchAt at k)) 0 (places (annotation_at g at))

-- what a derivation has is what the assignment takes there
abbrev pub IsAlternative : Grammar → List TokenForms → List PlacedChoice → Assignment → Spot → Type 0
IsAlternative g s cs a (AnEdge e) = Unit {0}
IsAlternative g s cs a (AStep p n) = (ns : List Next) × AreNexts g s p ns × (slice_get ns (alternative_at g s cs a (NextAt p)) ≡ Some n)
IsAlternative g s cs a (AWord e k) = (ks : List ℕ) × AreEntries g s e ks × (slice_get ks (alternative_at g s cs a (EntryAt e)) ≡ Some k)
IsAlternative g s cs a (APick at picks) = picks ≡ picks_at g s cs a at

-- the assignment of these choices picks the derivation
pub record IsPickedBy (g : Grammar) (s : List TokenForms) (cs : List PlacedChoice) (a : Assignment) (d : Tree) : Type 0 where
  pub whole : Whole g s d
  pub takes : (x : Spot) → In x (spots_of d 0) → IsAlternative g s cs a x
