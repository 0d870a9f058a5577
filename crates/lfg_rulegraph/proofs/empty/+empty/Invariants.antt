use Rattle.std.proofs.Common.{◌≡◌, ◌&&◌, ◌||◌, drop}
use Rattle.lfg_model.specs.RightSides.{right_sides_of}
use Rattle.lfg_rulegraph.specs.Empty.{all_allow_empty, some_allows_empty, some_has_empty_star}
use Rattle.lfg_rulegraph.proofs.empty.+empty.Given as goal

abbrev pub invariant-all_allow_empty-loop-part : goal.invariant-all_allow_empty-loop-part
invariant-all_allow_empty-loop-part l = record {
  empty : (l.all && all_allow_empty (right_sides_of (drop l.part-index l.parts))) ≡ all_allow_empty (right_sides_of l.parts);
  star : some_has_empty_star (right_sides_of (drop l.part-index l.parts)) ≡ some_has_empty_star (right_sides_of l.parts);
}

abbrev pub invariant-some_allows_empty-loop-branch : goal.invariant-some_allows_empty-loop-branch
invariant-some_allows_empty-loop-branch l = record {
  empty : (l.some || some_allows_empty (right_sides_of (drop l.branch-index l.branches))) ≡ some_allows_empty (right_sides_of l.branches);
  star : some_has_empty_star (right_sides_of (drop l.branch-index l.branches)) ≡ some_has_empty_star (right_sides_of l.branches);
}
