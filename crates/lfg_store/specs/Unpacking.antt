-- The pairs that a packed value stands for.
use Rattle.std.specs.Prelude.{◌≡◌, true, List}
use Rattle.lfg_terms.specs.declared.node.Fact.{Fact}
use Rattle.lfg_model.specs.declared.pair.Pair.{Pair}
use Rattle.lfg_model.specs.Lists.{Lists}
use Rattle.lfg_model.specs.PairTexts.{pair_cmp}
use Rattle.lfg_context.specs.Sets.{Assignment, member, IsGrown, HasSamePicks}
use Rattle.lfg_store.specs.Facts.{Entries, facts_at}
use Rattle.lfg_store.specs.declared.packed.Packed.{Packed}

-- the pair of an assignment: the tree facts and the f-facts that stand at it
abbrev pub pair_of : Entries → Entries → Assignment → Pair
pair_of tree facts a = record { tree = facts_at tree a; facts = facts_at facts a }

abbrev pub pair_at : Packed → Assignment → Pair
pair_at p a = pair_of p.tree p.facts a

-- the pair is that of some good assignment
pub record IsUnpacked (p : Packed) (pair : Pair) : Type 0 where
  pub assignment : Assignment
  pub good : member p.good assignment ≡ true
  pub is : pair_at p assignment ≡ pair

-- The list of a packed value: the pairs of all good assignments, each once, in the order of their
-- texts.
abbrev pub AreUnpacked : Packed → List Pair → Type 0
AreUnpacked p = Lists pair_cmp (IsUnpacked p)

-- The value means what it meant: its contexts alone may know more sets.
pub record KeepsMeaning (old new : Packed) : Type 0 where
  pub space : new.space ≡ old.space
  pub good : new.good ≡ old.good
  pub tree : new.tree ≡ old.tree
  pub facts : new.facts ≡ old.facts
  pub grown : IsGrown old.contexts new.contexts
  pub picks : HasSamePicks old.contexts new.contexts
