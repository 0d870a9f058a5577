use Rattle.std.proofs.Common.{◌≡◌, ◌==◌, not, filter, length, map, take}
use Rattle.xle_run.proofs.sections.with_words.Given as goal

abbrev pub invariant-loop-line : goal.invariant-loop-line
invariant-loop-line l = map (λ s. s.now) l.kept.items ≡ filter (λ line. not (length line == 0)) (map (λ s. s.now) (take l.line-index l.lines))
