-- Two proofs that a value is packed are equal, so that a struct can hold one in a ghost field.
use Rattle.std.specs.Prelude.{List}
use Rattle.std.proofs.Props.{props}
use Rattle.lfg_terms.specs.declared.choice.Choice.{Choice}
use Rattle.lfg_context.specs.Seen.{Set, Known}
use Rattle.lfg_context.specs.Sets.{IsInTable, member, arity_of}
use Rattle.lfg_store.specs.Facts.{Entries}
use Rattle.lfg_store.specs.Packing.{ArePacked, IsPacked}

pub is_packed_prop : (k : Known) (space : List Choice) (good : Set) (tree facts : Entries) → IsProp (IsPacked k space good tree facts)
unfolding IsInTable member
is_packed_prop k space good tree facts = hlevel props
