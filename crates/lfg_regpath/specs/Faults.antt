-- Why a path expression has no list of strings.
use Rattle.std.specs.Prelude.{◌≡◌, ◌⊎◌, ℕ, Result, Ok, Err}
use Rattle.lfg_model.specs.Terms.{Path}
use Rattle.lfg_model.specs.PathExpressions.{PathExpression, MoreThan, Strings}
use Rattle.lfg_regpath.specs.declared.fault.PathFault.{PathFault}
use Rattle.lfg_regpath.specs.declared.fault.PathFault.TheVariants.{TooManyPaths, NoPath, Memory}

-- each fault has its cause: there are more than 256 strings, or there is none; want of memory may
-- always come
abbrev pub IsRefused : PathExpression → ℕ → PathFault → Type 0
IsRefused path depth TooManyPaths = MoreThan 256 (Strings path depth)
IsRefused path depth NoPath = (w : Path) → ¬ Strings path depth w
IsRefused path depth Memory = Unit {0}

-- it fails by this fault, or for want of memory
abbrev pub FailsBy : {X : Type 0} → PathFault → Result X PathFault → Type 0
FailsBy fault (Ok x) = ⊥
FailsBy fault (Err other) = (other ≡ fault) ⊎ (other ≡ Memory)
