-- The choices of a sentence as they are listed, each with the key of its place.
use Rattle.std.specs.Prelude.{◌≡◌, ◌==◌, ℕ, ◌≤◌, ◌<◌, Some, List, length, map, slice_get, if◌then◌else◌}
use Rattle.lfg_terms.specs.declared.node.Edge.{Edge}
use Rattle.lfg_terms.specs.declared.literal.Site.TheVariants as site
use Rattle.lfg_terms.specs.declared.grammar.Grammar.{Grammar}
use Rattle.lfg_terms.specs.declared.tree.TokenForms.{TokenForms}
use Rattle.lfg_model.specs.declared.point.Point.{Point}
use Rattle.lfg_model.specs.Charts.{Fork}
use Rattle.lfg_model.specs.Lists.{In}
use Rattle.lfg_model.specs.Places.{places}
use Rattle.lfg_packed.specs.declared.key.ChoiceKey.{ChoiceKey}
use Rattle.lfg_packed.specs.ChoicePoints.{ChoicePoint, NextAt, EntryAt, BranchAt, key_of}
use Rattle.lfg_packed.specs.Choices.{PlacedChoice, AreChoices, HasAlternatives, annotation_at}
use Rattle.lfg_instant.specs.declared.junctions.Junction.{Junction}
use Rattle.lfg_instant.specs.Sites.{site_of_key}

-- the place of a key
abbrev pub place_of_key : ChoiceKey → ChoicePoint
place_of_key k =
    if k.rank == 0 then NextAt (record { edge = k.edge; occ = k.item; at = k.from })
    else if k.rank == 1 then EntryAt k.edge
    else if k.rank == 2 then BranchAt (site.Item k.edge k.item k.from k.to) k.place
    else BranchAt (site.Entry k.edge k.item) k.place

-- a key at this place of its annotation
abbrev pub at_place : ChoiceKey → ℕ → ChoiceKey
at_place k place = record { edge = k.edge; rank = k.rank; from = k.from; to = k.to; item = k.item; place = place }

-- the junction has this key and so many alternatives, two or more
pub record IsJunction (key : ChoiceKey) (many : ℕ) (j : Junction) : Type 0 where
  pub two : 2 ≤ many
  pub key_is : j.key ≡ key
  pub many_is : j.alternatives ≡ many

-- the keys of the ways to go on at a point, and of the entries of an edge
abbrev pub next_key : Point → ChoiceKey
next_key p = record { edge = p.edge; rank = 0; from = p.at; to = 0; item = p.occ; place = 0 }

abbrev pub entry_key : Edge → ChoiceKey
entry_key e = record { edge = e; rank = 1; from = 0; to = 0; item = 0; place = 0 }

-- the ways to go on at the point with this place among some forks
abbrev pub IsForkJunction : List Fork → ℕ → Junction → Type 0
IsForkJunction forks m j = (fork : Fork) × (slice_get forks m ≡ Some fork) × IsJunction (next_key fork.0) (length fork.1) j

abbrev pub IsNextJunction : List Fork → Junction → Type 0
IsNextJunction forks j = (m : ℕ) × (m < length forks) × IsForkJunction forks m j

-- the entries of the edge with this place, which stand beside it
abbrev pub IsEdgeJunction : List Edge → List (List ℕ) → ℕ → Junction → Type 0
IsEdgeJunction edges lists m j = (e : Edge) × (ks : List ℕ) × (slice_get edges m ≡ Some e) × (slice_get lists m ≡ Some ks) × IsJunction (entry_key e) (length ks) j

abbrev pub IsEntryJunction : List Edge → List (List ℕ) → Junction → Type 0
IsEntryJunction edges lists j = (m : ℕ) × (m < length edges) × IsEdgeJunction edges lists m j

-- the numbered place m of an annotation, where the places have these numbers of alternatives
abbrev pub IsNumberJunction : ChoiceKey → List ℕ → ℕ → Junction → Type 0
IsNumberJunction k ns m j = (n : ℕ) × (slice_get ns m ≡ Some n) × IsJunction (at_place k m) n j

abbrev pub IsPlaceJunction : ChoiceKey → List ℕ → Junction → Type 0
IsPlaceJunction k ns j = (m : ℕ) × (m < length ns) × IsNumberJunction k ns m j

-- a numbered place of the annotation of the item or entry with this place among some keys
abbrev pub IsSiteJunction : Grammar → List ChoiceKey → ℕ → Junction → Type 0
IsSiteJunction g keys m j = (k : ChoiceKey) × (slice_get keys m ≡ Some k) × IsPlaceJunction k (places (annotation_at g (site_of_key k))) j

abbrev pub IsBranchJunction : Grammar → List ChoiceKey → Junction → Type 0
IsBranchJunction g keys j = (m : ℕ) × (m < length keys) × IsSiteJunction g keys m j

-- a junction as a choice with its place
abbrev pub placed : Junction → PlacedChoice
placed j = record { at = place_of_key j.key; alternatives = j.alternatives }

-- the junctions are the choices of the sentence, in order, each with the key of its place
pub record AreJunctions (g : Grammar) (s : List TokenForms) (js : List Junction) : Type 0 where
  pub choices : AreChoices g s (map placed js)
  pub keys : (j : Junction) → In j js → j.key ≡ key_of g s (place_of_key j.key)

-- the key is that of a place with so many alternatives, of which this number is one
pub record IsPlaceKey (g : Grammar) (s : List TokenForms) (x : ChoicePoint) (key : ChoiceKey) (many number : ℕ) : Type 0 where
  pub is : key ≡ key_of g s x
  pub has : HasAlternatives g s x many
  pub within : number < many
