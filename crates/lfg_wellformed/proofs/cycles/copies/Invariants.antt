use Rattle.std.proofs.Common.{◌≡◌, ◌<◌, ℕ, [], ◌++◌, length, get_or, map, take}
use Rattle.lfg_model.specs.Lists.{In}
use Rattle.lfg_context.specs.Seen.{Set}
use Rattle.lfg_wellformed.proofs.cycles.copies.Given as goal

abbrev pub invariant-loop-place : goal.invariant-loop-place
invariant-loop-place l = record {
  len : length l.copies.items ≡ l._place;
  each : (x : Set) → In x l.copies.items → x ≡ l.set;
}
