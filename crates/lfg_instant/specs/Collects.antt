-- Lists that collect elements.
use Rattle.std.specs.Prelude.{◌↔◌, ◌⊎◌, List}
use Rattle.lfg_model.specs.Lists.{In}

-- the list keeps what it has and gets exactly what has P
pub record Collects {X : Type 0} (old new : List X) (P : X → Type 0) : Type 0 where
  pub exact : (x : X) → In x new ↔ (In x old ⊎ P x)
