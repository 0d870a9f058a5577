use Rattle.std.proofs.Common.{◌≡◌, ℕ, ◌+◌, List, [], None, take, length, drop, sym, ap, ◌∙◌, ◌++◌, arith, length-drop}
use Rattle.std.proofs.lemmas.List.{take-append-drop}
use Rattle.lfg_io.specs.Shelf.{IsLoaded}
use Rattle.lfg_io.proofs.disk_shelf.append_from.Goals as goal

-- what stands behind the first bytes is no longer than the limit
behind : (start limit left : ℕ) (old new : List ℕ) → take start new ≡ old → length new + left ≡ start + limit → IsLoaded None [] limit old new
behind start limit left old new front room =
    (drop start new, omega (arith, length-drop start new), sym (take-append-drop start new) ∙ ap (λ bytes. bytes ++ drop start new) front)

pub returns-after-loop-left-clause-within : goal.returns-after-loop-left-clause-within
returns-after-loop-left-clause-within g c =
    behind _ _ _ _ _ c.loop-left.invariant.1 c.loop-left.invariant.2

pub returns-in-Ok-eq0-clause-within : goal.returns-in-Ok-eq0-clause-within
returns-in-Ok-eq0-clause-within g c =
    behind _ _ _ _ _ c.loop-left.invariant.1 c.loop-left.invariant.2
