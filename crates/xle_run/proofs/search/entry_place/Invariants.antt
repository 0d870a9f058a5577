use Rattle.std.proofs.Common.{ℕ, ◌≤◌}
use Rattle.xle_run.specs.Search.{IsEntryAt}
use Rattle.xle_run.proofs.search.entry_place.Given as goal

abbrev pub invariant-loop-place : goal.invariant-loop-place
invariant-loop-place l = (place : ℕ) → IsEntryAt l.lexicon l.token l.cat place → l.place ≤ place
