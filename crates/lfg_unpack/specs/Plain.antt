-- Facts without new nodes, whose texts need no table.
use Rattle.std.specs.Prelude.{List, [], All}
use Rattle.lfg_terms.specs.FactTexts.{IsListedFact}
use Rattle.lfg_terms.specs.declared.node.Fact.{Fact}
use Rattle.lfg_model.specs.Lists.{In}
use Rattle.lfg_store.specs.Facts.{Entries, facts_of}

-- no argument of the fact is a new node
abbrev pub IsPlain : Fact → Type 0
IsPlain fact = IsListedFact [] fact

abbrev pub ArePlain : List Fact → Type 0
ArePlain facts = All IsPlain facts

-- no fact of a store has a new node
pub record HasPlainFacts (es : Entries) : Type 0 where
  pub each : (f : Fact) → In f (facts_of es) → IsPlain f
