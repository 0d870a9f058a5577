-- The derivation that takes one alternative at each point, and the laws that there is exactly one
-- and what it has.
use Rattle.std.specs.Prelude.{◌≡◌, ◌↔◌, ℕ, ◌≤◌, Some, List, length, slice_get}
use Rattle.lfg_terms.specs.declared.node.Edge.{Edge}
use Rattle.lfg_terms.specs.declared.literal.Site.{Site}
use Rattle.lfg_terms.specs.declared.literal.Site.TheVariants as site
use Rattle.lfg_terms.specs.declared.grammar.Rule.{Rule}
use Rattle.lfg_terms.specs.declared.grammar.Lex.{Lex}
use Rattle.lfg_terms.specs.declared.grammar.Grammar.{Grammar}
use Rattle.lfg_terms.specs.declared.tree.TokenForms.{TokenForms}
use Rattle.lfg_model.specs.declared.point.Point.{Point}
use Rattle.lfg_model.specs.declared.point.Next.{Next}
use Rattle.lfg_model.specs.declared.point.Next.TheVariants as next
use Rattle.lfg_model.specs.Lists.{In}
use Rattle.lfg_model.specs.Terms.{Name, Tree}
use Rattle.lfg_model.specs.Derive.{rule_of, edge, Whole}
use Rattle.lfg_model.specs.Grounded.{IsItemOf, IsGrounded}
use Rattle.lfg_model.specs.Spots.{point, Spot, AnEdge, AStep, AWord, APick, spots_of, Stands}
use Rattle.lfg_model.specs.Kept.{Derivable, IsEntry, IsFillable}

-- a way to go on for each point, an entry for each edge, and picks for each annotation
pub record Selection : Type 0 where
  pub next_of : Point → Next
  pub entry_of : Edge → ℕ
  pub picks_of : Site → List ℕ

-- Where whole derivations have a choice, the selection takes what some whole derivation takes.
pub record IsSelection (g : Grammar) (s : List TokenForms) (c : Selection) : Type 0 where
  pub next : (p : Point) (n : Next) → Stands g s (AStep p n) → Stands g s (AStep p (c.next_of p))
  pub entry : (e : Edge) (k : ℕ) → Stands g s (AWord e k) → Stands g s (AWord e (c.entry_of e))
  pub picks : (at : Site) (picks : List ℕ) → Stands g s (APick at picks) → Stands g s (APick at (c.picks_of at))

-- a step, an entry or picks are those of the selection
abbrev pub IsTaken : Selection → Spot → Type 0
IsTaken c (AnEdge e) = Unit {0}
IsTaken c (AStep p n) = n ≡ c.next_of p
IsTaken c (AWord e k) = k ≡ c.entry_of e
IsTaken c (APick at picks) = picks ≡ c.picks_of at

-- the whole derivation takes what is selected, wherever it has something to take
pub record IsPicked (g : Grammar) (s : List TokenForms) (c : Selection) (d : Tree) : Type 0 where
  pub whole : Whole g s d
  pub takes : (x : Spot) → In x (spots_of d 0) → IsTaken c x

-- an edge or a point
pub data Mark : Type 0 where
  OfEdge : Edge → Mark
  OfPoint : Point → Mark

-- What the selection reaches from the root edge downwards: of an edge whose category has a rule the
-- start of the rule, behind a point the point to which the selected step leads, and the daughter
-- that such a step goes over.
pub data Reached (g : Grammar) (s : List TokenForms) (c : Selection) : Mark → Type 0 where
  the_root : 1 ≤ length s → Derivable g s (edge g.root 0 (length s)) → Reached g s c (OfEdge (edge g.root 0 (length s)))
  starts : {e : Edge} {rule : Rule} → Reached g s c (OfEdge e) → rule_of g e.cat ≡ Some rule → Reached g s c (OfPoint (point e 0 e.from))
  goes : {e : Edge} {q at p mid : ℕ} → Reached g s c (OfPoint (point e q at)) → c.next_of (point e q at) ≡ next.Item p mid → Reached g s c (OfPoint (point e p mid))
  enters : {e : Edge} {q at p mid : ℕ} {rule : Rule} {cat : Name} → Reached g s c (OfPoint (point e q at)) → c.next_of (point e q at) ≡ next.Item p mid
      → rule_of g e.cat ≡ Some rule → IsItemOf rule p cat → Reached g s c (OfEdge (edge cat at mid))

-- a step at this point goes over the item
pub record IsOver (g : Grammar) (s : List TokenForms) (c : Selection) (e : Edge) (occ at to : ℕ) : Type 0 where
  pub behind : ℕ
  pub reached : Reached g s c (OfPoint (point e behind at))
  pub goes_over : c.next_of (point e behind at) ≡ next.Item occ to

-- the edge is reached, and the selected entry is one for it
pub record IsWordOf (g : Grammar) (s : List TokenForms) (c : Selection) (e : Edge) (k : ℕ) : Type 0 where
  pub reached : Reached g s c (OfEdge e)
  pub fits : IsEntry g s e k
  pub selected : k ≡ c.entry_of e

-- the selection reaches the item or the entry of an annotation
abbrev pub SiteReached : Grammar → List TokenForms → Selection → Site → Type 0
SiteReached g s c (site.Item e occ at to) = IsOver g s c e occ at to
SiteReached g s c (site.Entry e k) = IsWordOf g s c e k

-- What is reached of all that a derivation can have: the edge; the selected step at a point; the
-- selected entry; the selected picks of an item or entry.
abbrev pub IsReached : Grammar → List TokenForms → Selection → Spot → Type 0
IsReached g s c (AnEdge e) = Reached g s c (OfEdge e)
IsReached g s c (AStep p n) = Reached g s c (OfPoint p) × (n ≡ c.next_of p)
IsReached g s c (AWord e k) = IsWordOf g s c e k
IsReached g s c (APick at picks) = SiteReached g s c at × (picks ≡ c.picks_of at)

-- no category has a rule and an entry
abbrev pub IsApart : Grammar → Type 0
IsApart g = (cat : Name) (rule : Rule) (k : ℕ) (lex : Lex) → rule_of g cat ≡ Some rule → slice_get g.lexicon k ≡ Some lex → ¬ (lex.cat ≡ cat)

-- Law: the picked derivation has just what the selection reaches.
abbrev pub PickedIsReached : Type 0
PickedIsReached = (g : Grammar) (s : List TokenForms) (c : Selection) (d : Tree) → IsApart g → IsPicked g s c d → (x : Spot) → In x (spots_of d 0) ↔ IsReached g s c x

-- Law: a selection picks one derivation at most.
abbrev pub OneIsPicked : Type 0
OneIsPicked = (g : Grammar) (s : List TokenForms) (c : Selection) (d d' : Tree) → IsApart g → IsPicked g s c d → IsPicked g s c d' → d ≡ d'

-- Law: where there is a whole derivation, each selection picks one.
abbrev pub SomeIsPicked : Type 0
SomeIsPicked =
    (g : Grammar) (s : List TokenForms) (c : Selection) → IsGrounded g → IsFillable g → IsSelection g s c → (d : Tree) → Whole g s d
    → (picked : Tree) × IsPicked g s c picked
