use Rattle.std.proofs.Common.{◌≡◌, map, take}
use Rattle.lfg_instant.proofs.words.entries.Given as goal

abbrev pub invariant-loop-key : goal.invariant-loop-key
invariant-loop-key l = record { found : l.found.items ≡ map (λ key. key.entry) (take l.key-index l.keys) }
