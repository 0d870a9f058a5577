-- The refusal of one reader is that of the reader that called it.
use Rattle.std.proofs.Common.{◌≡◌, Option, None}
use Rattle.lfg_notation.specs.declared.fault.Refusal.{Refusal}
use Rattle.lfg_notation.specs.declared.fault.Refusal.TheVariants.{Form, Memory}
use Rattle.lfg_notation.specs.Reading.{Refuses}

pub refused : {V W : Type 0} (e : Refusal) (o : Option V) (p : Option W) → (o ≡ None → p ≡ None) → Refuses e o → Refuses e p
refused Form o p h g = h g
refused Memory o p h g = tt
