use Rattle.std.proofs.Common.{◌≡◌, ◌<◌, ℕ, length}
use Rattle.lfg_choice.specs.Choices.{alternatives_of}
use Rattle.lfg_context.proofs.tests.threes.Given as goal

abbrev pub invariant-loop-place : goal.invariant-loop-place
invariant-loop-place l = record {
  len : length l.space ≡ l._place;
  three : (c : ℕ) → c < length l.space → alternatives_of l.space c ≡ 3;
}
